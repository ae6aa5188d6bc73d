-- The module is enabled or not, and clocks itself or not; a host's clock runs on, stands or moves.
use Rattle.laws.proofs.Common.{refl, sym, ◌∙◌, ap, not, not-false, and_both, and-false, and_first, so}
use Rattle.module_rules.proofs.Types.{Pins, Engine}
use Rattle.module_rules.specs.Settings.{framed, clock_stops}
use Rattle.module_rules.specs.Calls.{refuse, clock_step_of}
use Rattle.module_rules.proofs.ClockSteps.{step_stands, step_own, step_pin}
use Rattle.module_memory.specs.Memory.{settings_in, engine_in}
use Rattle.module_memory.proofs.Taken.{◌then◌}
use Rattle.module_answers.proofs.Answers.{kept, changed, answered}
use Rattle.module_answers.proofs.Edges.{plain_turn, told_turn}
use Rattle.module_edges.proofs.Begins.{turns, heard_sck}
use Rattle.module_edges.proofs.clock_step.Goals as goal

pub returns-then-not-s : goal.returns-then-not-s
unfolding clock_step_of refuse
returns-then-not-s c = kept (so _ _ _ (rw c.settings_in-s.ensures at c.if-not-s.true) refl)

pub returns-then-not-own_clock : goal.returns-then-not-own_clock
returns-then-not-own_clock c =
    let on = not-false _ (rw c.settings_in-s.ensures at c.if-not-s.false) in
    let pin = rw (c.own_clock.ensures, c.settings_in-s.ensures) at c.if-not-own_clock.true in
    changed refl (answered _ c.see_any.ensures refl ∙ sym (step_pin _ _ _ _ on pin))

pub framed_edge-requires : goal.framed_edge-requires
framed_edge-requires c =
    ap framed c.hear_select.ensures.settings ∙ (rw (c.is_framed.ensures, c.settings_in-s.ensures) at c.if-is_framed.true)

pub returns-then-is_framed : goal.returns-then-is_framed
returns-then-is_framed c =
    let level =
    ap (λ (x : Pins). x.sck) c.pins_in-pins.ensures
    ∙ sym (heard_sck (settings_in c.args.w.now) c.args.ss (engine_in c.args.w.now))
    ∙ sym (ap (λ (n : Engine). n.pins.sck) c.hear_select.ensures.engine) in
    let on = not-false _ (rw c.settings_in-s.ensures at c.if-not-s.false) in
    let own = rw (c.own_clock.ensures, c.settings_in-s.ensures) at c.if-not-own_clock.false in
    changed refl
    (answered _ (c.hear_select.ensures then turns _ level c.framed_edge.ensures) (told_turn _ _ _ own)
    ∙ sym (step_own _ _ _ _ on own (and_first _ _ (ap not (rw (c.is_framed.ensures, c.settings_in-s.ensures) at c.if-is_framed.true)))))

pub returns-then-is_free : goal.returns-then-is_free
returns-then-is_free c =
    let on = not-false _ (rw c.settings_in-s.ensures at c.if-not-s.false) in
    let own = rw (c.own_clock.ensures, c.settings_in-s.ensures) at c.if-not-own_clock.false in
    kept
    (sym
    (step_stands _ _ _ _ on own
    (and_both _ _ (ap not (rw (c.is_framed.ensures, c.settings_in-s.ensures) at c.if-is_framed.false)) (sym c.is_free.ensures ∙ c.if-is_free.true))))

pub plain_edge-requires : goal.plain_edge-requires
plain_edge-requires c = rw (c.is_framed.ensures, c.settings_in-s.ensures) at c.if-is_framed.false

pub returns : goal.returns
returns c =
    let on = not-false _ (rw c.settings_in-s.ensures at c.if-not-s.false) in
    let own = rw (c.own_clock.ensures, c.settings_in-s.ensures) at c.if-not-own_clock.false in
    changed refl
    (answered _ (turns _ (ap (λ (x : Pins). x.sck) c.pins_in-pins.ensures) c.plain_edge.ensures) (plain_turn _ _ _ own (rw (c.is_framed.ensures, c.settings_in-s.ensures) at c.if-is_framed.false))
    ∙ sym (step_own _ _ _ _ on own (and-false (clock_stops (settings_in c.args.w.now)) _ (sym c.is_free.ensures ∙ c.if-is_free.false))))
