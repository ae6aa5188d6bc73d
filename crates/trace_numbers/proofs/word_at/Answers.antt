-- `trace_numbers::word_at` meets its contract: two bytes and two more, or 0 beyond the end. Assumes nothing.
use Rattle.std.specs.Prelude.{◌+◌, ◌≡◌}
use Rattle.laws.proofs.Common.{ap, sym, arith}
use Rattle.trace_rules.specs.Trace.{byte_at, half_at, word_at}
use Rattle.trace_numbers.proofs.Numbers.{word_beyond}
use Rattle.trace_numbers.proofs.word_at.Goals as goal

pub returns-then-f-i : goal.returns-then-f-i
unfolding word_at
returns-then-f-i c = sym (word_beyond _ _ c.if-f-i.true)

pub returns-then-f-i-lt4 : goal.returns-then-f-i-lt4
unfolding word_at
returns-then-f-i-lt4 c = omega arith

pub returns : goal.returns
unfolding byte_at half_at word_at
returns c =
    let last : c.args.i + 3 ≡ c.args.i + 2 + 1 = omega arith in
    omega (arith, ap (byte_at c.args.f.now) last)
