-- Each arm is the clause of the definition for its case.
use Rattle.laws.proofs.Common.{refl, sym, ap, by_case}
use Rattle.module_rules.proofs.Types.{Begun}
use Rattle.module_rules.specs.Edge.{begun}
use Rattle.module_memory.specs.Memory.{settings_in, engine_in}
use Rattle.module_edges.proofs.begun_in.Goals as goal

pub returns-in-Loaded : goal.returns-in-Loaded
unfolding begun
returns-in-Loaded c = by_case (begun (settings_in c.args.w.now) (engine_in c.args.w.now)) (sym c.in-Loaded.ensures) (ap Begun c.fresh.ensures)

pub returns-in-Begun : goal.returns-in-Begun
unfolding begun
returns-in-Begun c = by_case (begun (settings_in c.args.w.now) (engine_in c.args.w.now)) (sym c.in-Begun.ensures) refl
