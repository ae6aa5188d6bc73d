use Rattle.std.specs.Prelude.{◌+◌, ◌≡◌}
use Rattle.laws.proofs.Common.{length, drop}
use Rattle.script_rules.specs.Texts.{put}
use Rattle.trace_writer.proofs.put.Given as goal

abbrev pub invariant-loop-i : goal.invariant-loop-i
invariant-loop-i l =
    (length l.out ≡ length l.initial.out) × (put l.out (l.at + l.i) (drop l.i l.bytes) ≡ put l.initial.out l.at l.bytes)
