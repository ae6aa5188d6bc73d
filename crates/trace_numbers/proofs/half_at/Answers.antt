-- `trace_numbers::half_at` meets its contract: two bytes of the file, or its last one alone, or 0 beyond its end. Assumes nothing.
use Rattle.std.specs.Prelude.{◌+◌}
use Rattle.laws.proofs.Common.{sym, arith}
use Rattle.trace_rules.specs.Trace.{half_at}
use Rattle.trace_numbers.proofs.Numbers.{byte_beyond, half_beyond}
use Rattle.trace_numbers.proofs.half_at.Goals as goal

pub returns-then-f-i : goal.returns-then-f-i
returns-then-f-i c = sym (half_beyond _ _ c.if-f-i.true)

pub returns-then-f-i-lt2 : goal.returns-then-f-i-lt2
unfolding half_at
returns-then-f-i-lt2 c = omega (arith, byte_beyond c.args.f.now (c.args.i + 1) (omega arith))
