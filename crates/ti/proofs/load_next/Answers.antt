-- The character that waits is loaded from a transmit buffer that is then empty.
use Rattle.laws.proofs.Common.{◌∙◌, arith, get_or-set_other}
use Rattle.ti.proofs.Calls.{flag_of, ◌then◌, alike}
use Rattle.ti.proofs.Parts.{free_stored, gone_stored}
use Rattle.ti.proofs.Edges.{next_is}
use Rattle.ti.proofs.load_next.Goals as goal

pub returns-then-w-eq0 : goal.returns-then-w-eq0
returns-then-w-eq0 c =
    free_stored _ (search) _ (search)
    (flag_of c.from.ensures
    ∙ (rw (get_or-set_other c.args.w.now 6 4 0 0 (λ e. omega arith), get_or-set_other c.args.w.now 6 18 0 0 (λ e. omega arith)) at c.between.ensures))

pub returns-else-w-eq0 : goal.returns-else-w-eq0
returns-else-w-eq0 c = alike ((gone_stored _ (search)) then c.load.ensures) (next_is _ (search))
