-- With SS low no module is deselected, and an unframed one that sees another level of SCK makes its edge.
use Rattle.laws.proofs.Common.{not}
use Rattle.laws.proofs.Common.{◌∙◌, ap, and-false}
use Rattle.module_rules.specs.Settings.{framed, ssen_client}
use Rattle.module_rules.specs.Select.{select_remembered}
use Rattle.module_memory.specs.Memory.{settings_in}
use Rattle.module_memory.proofs.Taken.{◌then◌, alike}
use Rattle.module_answers.proofs.Edges.{seen_edge}
use Rattle.module_answers.proofs.Turns.{left_alone, made_so, plain_on, pins_answer}
use Rattle.module_edges.proofs.low_edge.Goals as goal

pub returns-then-ss : goal.returns-then-ss
returns-then-ss c = left_alone

pub returns-then-not-s-is_framed : goal.returns-then-not-s-is_framed
returns-then-not-s-is_framed c = left_alone

pub plain_edge-requires : goal.plain_edge-requires
plain_edge-requires c =
    ap framed c.store_ss.ensures.settings ∙ (plain_on (settings_in c.args.w.now) (ap not (rw (c.is_framed.ensures, c.settings_in-s.ensures) at c.if-not-s-is_framed.false))).1

pub returns : goal.returns
unfolding select_remembered
returns c =
    let ready = plain_on (settings_in c.args.w.now) (ap not (rw (c.is_framed.ensures, c.settings_in-s.ensures) at c.if-not-s-is_framed.false)) in
    made_so
    (pins_answer ready.0 _ _ _ (rw (c.own_clock.ensures, c.settings_in-s.ensures) at c.if-own_clock.false)
    (alike (c.store_ss.ensures then c.plain_edge.ensures)
    (seen_edge _ _ _ _ _ (and-false (ssen_client (settings_in c.args.w.now)) _ c.if-ss.false) (rw c.pins_in.ensures at c.if-sck-pins_in.false))))
