-- The number of the test, as the answer has it.
use Rattle.laws.proofs.Common.{ℕ, ap, ◌∙◌}
use Rattle.board_calls.specs.Owing.{refused_number, refused_as}
use Rattle.board_calls.proofs.refused.Goals as goal

pub returns : goal.returns
returns c = c.refusal.ensures ∙ ap (λ (k : ℕ). refused_as (refused_number c.args.owed k)) c.tested.ensures
