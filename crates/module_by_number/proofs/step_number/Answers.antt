-- Each arm is the clause of the definition for its case.
use mathlib.Core.Logic.{inl, inr}
use Rattle.laws.proofs.Common.{refl, arith, by_case}
use Rattle.module_types.specs.declared.Answer.{Answer}
use Rattle.module_by_number.specs.Told.{step_number}
use Rattle.module_by_number.proofs.step_number.Goals as goal

pub returns-in-Refused : goal.returns-in-Refused
unfolding step_number
returns-in-Refused c = by_case (λ (a : Answer). step_number a c.args.seen) c.in-Refused.is (omega (arith, c.refusal_number.ensures))

pub returns-in-NoEdge : goal.returns-in-NoEdge
unfolding step_number
returns-in-NoEdge c = by_case (λ (a : Answer). step_number a c.args.seen) c.in-NoEdge.is refl

pub returns-in-Done : goal.returns-in-Done
unfolding step_number
returns-in-Done c =
    elim c.in-Done.is [
      | inl done ↦ by_case (λ (a : Answer). step_number a c.args.seen) done refl
      | inr other ↦
          elim other [
            | inl value ↦ by_case (λ (a : Answer). step_number a c.args.seen) value.1 refl
            | inr edge ↦ by_case (λ (a : Answer). step_number a c.args.seen) edge refl
          ]
    ]
