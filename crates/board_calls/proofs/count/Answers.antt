-- The words waiting, and the one in the shift register.
use Rattle.laws.proofs.Common.{ap, ◌∙◌, arith}
use Rattle.module_rules.proofs.Types.{Settings}
use Rattle.board_rules.specs.Owed.{in_shift, words_owed}
use Rattle.board_calls.proofs.count.Goals as goal

pub returns : goal.returns
unfolding words_owed
returns c =
    let shift = c.in_shift.ensures.0 ∙ ap (λ (s : Settings). in_shift s (c.shift_in-sh.result)) c.settings_in-s.ensures ∙ ap (in_shift _) c.shift_in-sh.ensures in
    (omega (arith, shift, c.waiting_in-waiting.ensures), omega (arith, c.in_shift.ensures.1))
