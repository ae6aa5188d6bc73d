-- Each arm is the number of what the answer says.
use mathlib.Core.Logic.{inl, inr}
use Rattle.laws.proofs.Common.{refl, arith, by_case}
use Rattle.module_by_number.specs.Told.{answer_number}
use Rattle.module_by_number.proofs.answer_number.Goals as goal

pub returns-in-Refused : goal.returns-in-Refused
unfolding answer_number
returns-in-Refused c = by_case answer_number c.in-Refused.is (omega (arith, c.refusal_number.ensures))

pub returns-in-Value : goal.returns-in-Value
unfolding answer_number
returns-in-Value c = by_case answer_number c.in-Value.is (omega arith)

pub returns-in-Done : goal.returns-in-Done
unfolding answer_number
returns-in-Done c = elim c.in-Done.is [ inl e ↦ by_case answer_number e refl | inr e ↦ by_case answer_number e refl ]

pub returns-in-Edge : goal.returns-in-Edge
unfolding answer_number
returns-in-Edge c = by_case answer_number c.in-Edge.is refl
