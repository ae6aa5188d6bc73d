-- Byte by byte: those that are left complete the buffer.
use Rattle.std.specs.Prelude.{◌+◌, ◌≡◌}
use Rattle.laws.proofs.Common.{ℕ, refl, ap, ◌∙◌, arith, length-set}
use Rattle.script_rules.specs.Texts.{put}
use Rattle.trace_writer.proofs.Placing.{put_byte, put_over}
use Rattle.trace_writer.proofs.put.Goals as goal

pub loop-i-init : goal.loop-i-init
loop-i-init c = (refl, ap (λ (k : ℕ). put c.args.out.now k c.args.bytes.now) (let same : c.args.at + 0 ≡ c.args.at = omega arith in same))

pub loop-i-preserved : goal.loop-i-preserved
loop-i-preserved c = (length-set _ _ _ ∙ c.loop-i.invariant.0, put_byte c.loop-i.out c.args.bytes.now c.args.at c.loop-i.i c.loop-i.invariant.1 (omega arith))

pub returns : goal.returns
returns c = record { buffer = put_over c.loop-i.out c.args.bytes.now c.args.at c.loop-i.i c.loop-i.invariant.1 (omega arith); behind = refl }
