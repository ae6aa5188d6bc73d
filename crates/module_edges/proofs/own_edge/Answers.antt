-- An unframed host that has a word makes its edge; any other module is left.
use Rattle.laws.proofs.Common.{ap, not}
use Rattle.laws.proofs.Common.{sym, ◌∙◌, and_first}
use Rattle.module_rules.proofs.Types.{Pins}
use Rattle.module_memory.specs.Memory.{settings_in}
use Rattle.module_answers.proofs.Turns.{left_alone, made_so, plain_on, tick_answers}
use Rattle.module_edges.proofs.Begins.{turns}
use Rattle.module_edges.proofs.own_edge.Goals as goal

pub returns-then-not-s-is_framed : goal.returns-then-not-s-is_framed
returns-then-not-s-is_framed c = left_alone

pub plain_edge-requires : goal.plain_edge-requires
plain_edge-requires c =
    (plain_on (settings_in c.args.w.now) (ap not (rw (c.is_framed.ensures, c.settings_in-s.ensures) at c.if-not-s-is_framed.false))).1

pub returns : goal.returns
returns c =
    let ready = plain_on (settings_in c.args.w.now) (ap not (rw (c.is_framed.ensures, c.settings_in-s.ensures) at c.if-not-s-is_framed.false)) in
    let own = rw (c.own_clock.ensures, c.settings_in-s.ensures) at c.if-not-own_clock.false in
    made_so (tick_answers ready.0 _ _ own (and_first _ _ ready.1) (sym c.is_free.ensures ∙ c.if-is_free.false) (turns _ (ap (λ (x : Pins). x.sck) c.pins_in-pins.ensures) c.plain_edge.ensures))
