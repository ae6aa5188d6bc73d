-- By SPIBEN, and then each arm is the clause of the definition for its case.
use Rattle.std.specs.Prelude.{◌≡◌}
use Rattle.laws.proofs.Common.{ℕ, false, refl, sym, arith, not-true, not-false, ne_eqb, or-false, by_case}
use Rattle.module_rules.proofs.Types.{Event, Taken, Appended, Left, Finished, Written}
use Rattle.module_rules.specs.Interrupts.{standard_raises}
use Rattle.module_word_steps.proofs.Raised.{standard, enhanced}
use Rattle.module_word_steps.proofs.raises.Goals as goal

no_finish : (e : Event) → ((left : ℕ) → e ≡ Finished left → ⊥) → false ≡ standard_raises e
no_finish (Taken left) h = refl
no_finish (Appended left) h = refl
no_finish (Left left) h = refl
no_finish (Finished left) h = absurd (h left refl)
no_finish (Written left) h = refl

pub returns-in-Finished : goal.returns-in-Finished
returns-in-Finished c = standard _ _ (not-true _ c.if-not-s.true) (by_case standard_raises c.in-Finished.is refl)

pub returns-in_default : goal.returns-in_default
returns-in_default c = standard _ _ (not-true _ c.if-not-s.true) (no_finish c.args.event c.in_default.not-Finished)

pub returns-in-Taken : goal.returns-in-Taken
returns-in-Taken c = enhanced _ _ (not-false _ c.if-not-s.false) c.in-Taken.is refl

pub returns-in-1 : goal.returns-in-1
returns-in-1 c = enhanced _ _ (not-false _ c.if-not-s.false) c.in-Appended.is (rw c.in-1.is)

pub returns-in-2 : goal.returns-in-2
returns-in-2 c = enhanced _ _ (not-false _ c.if-not-s.false) c.in-Appended.is (rw (c.in-2.is, c.requires) (sym (or-false _)))

pub returns-in-3 : goal.returns-in-3
returns-in-3 c = enhanced _ _ (not-false _ c.if-not-s.false) c.in-Appended.is (rw (c.in-3.is, c.requires))

pub returns-in_default-sisel : goal.returns-in_default-sisel
returns-in_default-sisel c =
    let s = c.args.s.sisel in
    enhanced _ _ (not-false _ c.if-not-s.false) c.in-Appended.is
    (rw (ne_eqb s 1 (λ e. omega arith), ne_eqb s 2 (λ e. omega arith), ne_eqb s 3 (λ e. omega arith)))

pub returns-in-4 : goal.returns-in-4
returns-in-4 c = enhanced _ _ (not-false _ c.if-not-s.false) c.in-Left.is (rw (c.in-4.is, c.requires) (sym (or-false _)))

pub returns-in-6 : goal.returns-in-6
returns-in-6 c = enhanced _ _ (not-false _ c.if-not-s.false) c.in-Left.is (rw c.in-6.is)

pub returns-in_default-sisel-2 : goal.returns-in_default-sisel-2
returns-in_default-sisel-2 c =
    let s = c.args.s.sisel in
    enhanced _ _ (not-false _ c.if-not-s.false) c.in-Left.is (rw (ne_eqb s 4 (λ e. omega arith), ne_eqb s 6 (λ e. omega arith)))

pub returns-in-Finished-event : goal.returns-in-Finished-event
returns-in-Finished-event c = enhanced _ _ (not-false _ c.if-not-s.false) c.in-Finished-event.is refl

pub returns-in-Written : goal.returns-in-Written
returns-in-Written c = enhanced _ _ (not-false _ c.if-not-s.false) c.in-Written.is (rw c.requires)
