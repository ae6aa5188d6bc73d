-- A free shift register has given none.
use Rattle.std.specs.Prelude.{Option}
use Rattle.laws.proofs.Common.{sym, ap, ne_eqb}
use Rattle.ti_rules.specs.Edge.{under_way}
use Rattle.ti_rules.specs.declared.Character.{Character}
use Rattle.ti.proofs.Parts.{busy_there, free_there}
use Rattle.ti.proofs.edges_given.Goals as goal

pub returns-then-w-eq0 : goal.returns-then-w-eq0
returns-then-w-eq0 c = ap (λ (s : Option Character). (under_way s).edges) (sym (free_there _ c.if-w-eq0.true))

pub returns-else-w-eq0 : goal.returns-else-w-eq0
returns-else-w-eq0 c = ap (λ (s : Option Character). (under_way s).edges) (sym (busy_there _ (ne_eqb _ _ c.if-w-eq0.false)))
