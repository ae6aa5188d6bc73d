-- By whether the next edge samples.
use Rattle.laws.proofs.Common.{◌∙◌, arith}
use Rattle.word_calls.proofs.Making.{left_least, taken_level, kept_level}
use Rattle.word_calls.proofs.levels_left.Goals as goal

pub overflow_sub-left : goal.overflow_sub-left
overflow_sub-left c =
    let takes = (rw (c.is_sampling.ensures, c.cke.ensures) at c.if-is_sampling.true) in
    omega (arith, left_least _ c.args.p c.args.left c.requires.0 c.requires.2 c.args.sdo takes)

pub returns-then-is_sampling : goal.returns-then-is_sampling
returns-then-is_sampling c =
    c.behind.ensures ∙ taken_level _ c.args.p _ c.requires.0 c.requires.2 _
    (rw (c.is_sampling.ensures, c.cke.ensures) at c.if-is_sampling.true)

pub returns : goal.returns
returns c =
    c.behind-2.ensures ∙ kept_level _ c.args.p _ c.requires.0 c.requires.2 _
    (rw (c.is_sampling.ensures, c.cke.ensures) at c.if-is_sampling.false)
