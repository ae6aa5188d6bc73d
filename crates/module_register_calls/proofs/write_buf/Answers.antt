-- The refusals are tested in the order of the definition.
use Rattle.laws.proofs.Common.{refl, so, not_so, so_le, not_so_le}
use Rattle.module_rules.specs.Registers.{spitbf}
use Rattle.module_rules.specs.Calls.{refuse, write_buf}
use Rattle.module_answers.proofs.Answers.{kept, changed, answered}
use Rattle.module_register_calls.proofs.write_buf.Goals as goal

pub returns-then-not-s : goal.returns-then-not-s
unfolding write_buf refuse
returns-then-not-s c = kept (so _ _ _ (rw c.settings_in-s.ensures at c.if-not-s.true) refl)

pub returns-then-depth-count : goal.returns-then-depth-count
unfolding write_buf refuse spitbf
returns-then-depth-count c =
    kept (not_so _ _ _ (rw c.settings_in-s.ensures at c.if-not-s.false) (so_le _ _ _ _ (rw (c.room_in-depth.ensures, c.waiting_in-count.ensures) at c.if-depth-count.true) refl))

pub returns : goal.returns
unfolding write_buf spitbf
returns c =
    changed refl (not_so _ _ _ (rw c.settings_in-s.ensures at c.if-not-s.false) (not_so_le _ _ _ _ (rw (c.room_in-depth.ensures, c.waiting_in-count.ensures) at c.if-depth-count.false) (answered _ c.accept_word.ensures (rw (c.low_bits.ensures, c.settings_in-s.ensures)))))
