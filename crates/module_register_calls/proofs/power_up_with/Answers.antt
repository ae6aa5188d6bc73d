-- Each depth, and any other number.
use Rattle.laws.proofs.Common.{arith, refl, sym, ap, ◌∙◌, when◌then◌else◌, not_so_eq}
use Rattle.module_rules.proofs.Types.{Module, Outcome, Done, Depth}
use Rattle.module_memory.specs.Memory.{module_in}
use Rattle.module_rules.specs.Calls.{refuse, powered_at, power_up_of}
use Rattle.module_answers.proofs.Answers.{kept, changed}
use Rattle.module_register_calls.proofs.power_up_with.Goals as goal
use Rattle.module_register_calls.proofs.power_up_with.Goals.{in-4, in-8, in-16}

abbrev done : Module → Outcome
done m = record { answer = Done; after = m }

pub returns-in_default : goal.returns-in_default
unfolding power_up_of refuse
returns-in_default c =
    kept (not_so_eq c.args.words 4 _ _ (λ e. omega arith) (not_so_eq c.args.words 8 _ _ (λ e. omega arith) (not_so_eq c.args.words 16 _ _ (λ e. omega arith) refl)))

pub returns : goal.returns
unfolding power_up_of when◌then◌else◌
returns c =
    changed refl
    (ap done (c.power_up_at.ensures)
    ∙ elim c.match-words.branch [
      | in-4 w ↦ ap (λ (d : Depth). done (powered_at d)) w.depth-is ∙ ap (power_up_of (module_in c.args.w.now)) (sym w.in-4.is)
      | in-8 w ↦ ap (λ (d : Depth). done (powered_at d)) w.depth-is ∙ ap (power_up_of (module_in c.args.w.now)) (sym w.in-8.is)
      | in-16 w ↦ ap (λ (d : Depth). done (powered_at d)) w.depth-is ∙ ap (power_up_of (module_in c.args.w.now)) (sym w.in-16.is)
    ])
