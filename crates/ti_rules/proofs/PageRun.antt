-- The page, run: its own statements as tests at each call of a list, so that a rule which is wrong is seen to be false of them.
--     claims         the statements of specs/Demands.antt at one call
--     run            the tests at every call of a list
--     page_runs      if the page holds, every run is true: a run that is false refutes the page
-- Assumes nothing.
use Rattle.std.specs.Prelude.{◌&&◌, ◌||◌, ◌∷◌, ◌++◌, ◌≡◌}
use Rattle.laws.proofs.Common.{ℕ, Bool, true, false, not, List, [], refl, ap, subst, ◌∙◌, eqb}
use Rattle.laws.proofs.Common.{length, when◌then◌else◌, and_both}
use Rattle.laws.proofs.Claims.{Claim, level, number, levels, numbers, provided, AllHold, none, ◌also◌, all_judged, all_judged_lem}
use Rattle.word_order.specs.Ledger.{sent, kept}
use Rattle.word_order.specs.Machine.{Watched, watched_call, watched_calls, InOrder}
use Rattle.ti_rules.specs.declared.Answer.{Answer}
use Rattle.ti_rules.specs.declared.Call.{Call}
use Rattle.ti_rules.specs.declared.Call.TheVariants.{Tick}
use Rattle.ti_rules.specs.declared.Output.{Output}
use Rattle.ti_rules.specs.declared.Output.TheVariants.{Low, High, Undriven}
use Rattle.ti_rules.specs.Refusals.{said_of}
use Rattle.ti_rules.specs.Calls.{perform_of, interrupt_of, transmit_full_of, overrun_of, sdo_of}
use Rattle.ti_rules.specs.Watch.{port_of, watching, start, life}
use Rattle.ti_rules.specs.Flags.{mode_asked, length_asked, sck_asked, select_asked, did, gave, made_edge, grew_lost, grew_finished, left_over, some_wait, sdo_seen, pin_seen, enters_reset, leaves_reset, sets_mode, sets_length, is_pin_call, clears_overrun}
use Rattle.ti_rules.specs.RefusalTable.{rows, first_number}
use Rattle.ti_rules.specs.Demands.{among, kinds_for, mode_levels, CallChanges, Shows, TiDemands}

-- An output as a number.
abbrev place : Output → ℕ
place Low = 0
place High = 1
place Undriven = 2

-- A watched module x, a call c with its answer a, and the watched module y after it. They are handed on as arguments, so that each is
-- computed once in a run.
unfoldable pub claims : Watched watching → Call → Answer → Watched watching → List Claim
claims x c a y =
    number (said_of a).number (first_number (rows x.now c))
    ∷ level (among (said_of a).kind (0 ∷ kinds_for c)) true
    ∷ level y.now.reset (enters_reset c || (not (leaves_reset c) && x.now.reset))
    ∷ levels (mode_levels y.now.settings) (when did (sets_mode c) a then mode_asked c else mode_levels x.now.settings)
    ∷ number y.now.settings.length (when did (sets_length c) a then length_asked c else x.now.settings.length)
    ∷ level (interrupt_of y.now)
    (not (enters_reset c) && (not (gave a) && (interrupt_of x.now || grew_finished x.ledger y.ledger)))
    ∷ level (overrun_of y.now)
    (not (enters_reset c) && (not (clears_overrun c) && (overrun_of x.now || grew_lost x.ledger y.ledger)))
    ∷ level y.now.engine.pins.sck
    (when y.now.reset then y.now.settings.polarity
    else when made_edge a then not x.now.engine.pins.sck
    else when did (is_pin_call c) a then sck_asked c
    else x.now.engine.pins.sck)
    ∷ level y.now.engine.pins.select
    (when y.now.reset then true else when did (is_pin_call c) a then select_asked c else x.now.engine.pins.select)
    ∷ level y.now.engine.pins.sdo
    (when y.now.reset then false else sdo_seen y.now.settings x.now.engine.pins.sdo y.ledger)
    ∷ level (transmit_full_of y.now) (not y.now.reset && some_wait y.ledger)
    ∷ number (place (sdo_of y.now)) (place (pin_seen y.now))
    ∷ provided (not y.now.reset)
    (provided y.now.settings.master
    (number (said_of (perform_of y.now (Tick false)).answer).kind (when eqb (length (left_over y.ledger)) 0 then 3 else 4)))
    ∷ provided (not y.now.reset) (numbers y.ledger.accepted (sent y.ledger ++ (port_of y.now.engine).owed))
    ∷ provided (not y.now.reset) (numbers (kept y.ledger) (y.ledger.read ++ (port_of y.now.engine).unread))
    ∷ []

unfoldable pub seen : Watched watching → Call → (Watched watching → Bool) → Watched watching → Bool
seen x c rest y = all_judged (claims x c (perform_of x.now c).answer y) && rest y

unfoldable pub run : List Call → Watched watching → Bool
run [] x = true
run (c ∷ cs) x = seen x c (run cs) (watched_call watching x c)

-- A call more.
life_on : (x : Watched watching) (cs : List Call) (c : Call) →
    watched_calls watching x (cs ++ (c ∷ [])) ≡ watched_call watching (watched_calls watching x cs) c
life_on x [] c = refl
life_on x (d ∷ ds) c = life_on (watched_call watching x d) ds c

-- The page at one call, after any sequence.
module _ (p : TiDemands) where
  page_said : (cs : List Call) (c : Call) →
      AllHold (claims (life cs) c (perform_of (life cs).now c).answer (watched_call watching (life cs) c))
  unfolding claims
  page_said cs c =
      let x : Watched watching = life cs in
      let y : Watched watching = watched_call watching x c in
      let later : life (cs ++ (c ∷ [])) ≡ y = life_on start cs c in
      let k : CallChanges x c (perform_of x.now c).answer y = p.changes cs c in
      let s : Shows y = subst Shows later (p.shows (cs ++ (c ∷ []))) in
      let o : not y.now.reset ≡ true → InOrder watching y =
      subst (λ (z : Watched watching). not z.now.reset ≡ true → InOrder watching z) later (p.word_order (cs ++ (c ∷ []))) in
      let ticks : not y.now.reset ≡ true → y.now.settings.master ≡ true →
      (said_of (perform_of y.now (Tick false)).answer).kind ≡ (when eqb (length (left_over y.ledger)) 0 then 3 else 4) =
      λ on own. s.ticks on own false in
      let sending : not y.now.reset ≡ true → y.ledger.accepted ≡ sent y.ledger ++ (port_of y.now.engine).owed =
      λ on. (o on).sending in
      let receiving : not y.now.reset ≡ true → kept y.ledger ≡ y.ledger.read ++ (port_of y.now.engine).unread =
      λ on. (o on).receiving in
      p.answered.refused_exactly x.now c
      also p.answered.in_kind x.now c
      also k.reset
      also k.mode
      also k.length
      also k.interrupt
      also k.overrun
      also k.sck
      also k.select
      also k.sdo
      also s.transmit_full
      also ap place s.sdo
      also ticks
      also sending
      also receiving
      also none

  runs_on : (ds : List Call) (x : Watched watching) (cs : List Call) → life cs ≡ x → run ds x ≡ true
  unfolding run seen
  runs_on [] x cs e = refl
  runs_on (d ∷ ds) x cs e =
      and_both _ _
      (all_judged_lem
      (subst (λ (z : Watched watching). AllHold (claims z d (perform_of z.now d).answer (watched_call watching z d))) e (page_said cs d)))
      (runs_on ds (watched_call watching x d) (cs ++ (d ∷ [])) (life_on start cs d ∙ ap (λ (z : Watched watching). watched_call watching z d) e))

  pub page_runs : (cs : List Call) → run cs start ≡ true
  page_runs cs = runs_on cs start [] refl
