-- `trace_right::take_record` meets its contract: a right record raises, and a wrong one does not. Assumes nothing.
use Rattle.laws.proofs.Common.{true, false, refl, sym, ◌∙◌, if_true, if_false}
use Rattle.trace_right.proofs.Levels.{play_low}
use Rattle.trace_right.proofs.take_record.Goals as goal

pub returns-then-not-record_right : goal.returns-then-not-record_right
returns-then-not-record_right c =
    record { value = sym c.if-not-record_right.true ∙ c.record_right.ensures; levels_after = sym (if_false false _ _ refl) }

pub raise-requires : goal.raise-requires
raise-requires c =
    λ play.
    play_low _ _ _ _ (sym c.record_right.ensures ∙ c.if-not-record_right.false) play

pub returns : goal.returns
returns c =
    record { value = sym c.if-not-record_right.false ∙ c.record_right.ensures; levels_after = c.raise.ensures ∙ sym (if_true true _ _ refl) }
