-- Each arm is the clause of the definition for its case.
use Rattle.laws.proofs.Common.{⊎_elim, refl, arith, by_case}
use Rattle.module_types.specs.declared.Answer.{Answer}
use Rattle.word_calls.specs.Speaking.{word_number}
use Rattle.word_calls.proofs.Spoken.number.Goals as goal

pub returns-in-Refused : goal.returns-in-Refused
unfolding word_number
returns-in-Refused c =
    by_case (λ (a : Answer). word_number a c.args.self.count c.args.self.levels) c.in-Refused.is
    (omega (arith, c.refusal_number.ensures))

pub returns-in-NoEdge : goal.returns-in-NoEdge
unfolding word_number
returns-in-NoEdge c = by_case (λ (a : Answer). word_number a c.args.self.count c.args.self.levels) c.in-NoEdge.is refl

pub returns-in-Done : goal.returns-in-Done
unfolding word_number
returns-in-Done c =
    let told = λ (a : Answer). word_number a c.args.self.count c.args.self.levels in
    ⊎_elim (λ e. by_case told e refl) (⊎_elim (λ e. by_case told e.1 refl) (λ e. by_case told e refl)) c.in-Done.is
