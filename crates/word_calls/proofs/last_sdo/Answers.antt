-- The branch is the choice of the closed form.
use Rattle.std.specs.Prelude.{◌+◌}
use Rattle.laws.proofs.Common.{refl, ap, arith, so_lt, not_so_lt}
use mir.Val.{bool_byte}
use Rattle.word_order.proofs.WordBits.{bit_most}
use Rattle.module_rules.specs.Settings.{cke_of}
use Rattle.module_rules.specs.Edge.{word_edges}
use Rattle.word_rules.proofs.Closed.{last_sdo}
use Rattle.word_calls.proofs.last_sdo.Goals as goal

pub overflow_add-p-2 : goal.overflow_add-p-2
unfolding last_sdo
overflow_add-p-2 c = omega (arith, bit_most c.cke-late.result)

pub returns-then-p-late : goal.returns-then-p-late
unfolding last_sdo
returns-then-p-late c =
    let late = ap bool_byte c.cke-late.ensures in
    so_lt (c.args.p.edges + 1 + bool_byte (cke_of c.args.s)) (word_edges c.args.s) _ _ (omega arith) c.bit.ensures

pub returns : goal.returns
unfolding last_sdo
returns c =
    let late = ap bool_byte c.cke-late.ensures in
    not_so_lt (c.args.p.edges + 1 + bool_byte (cke_of c.args.s)) (word_edges c.args.s) _ _ (omega arith) refl
