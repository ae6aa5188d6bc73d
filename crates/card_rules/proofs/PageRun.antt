-- The page, run: its own statements as tests at each call of a list, so that a rule which is wrong is seen to be false of them.
--     answers, changes, shows, order   the statements of specs/CardDemands.antt at one call
--     run         the tests at every call of a list
--     page_runs   if the page holds, every run is true: a run that is false refutes the page
-- Assumes nothing.
use Rattle.std.specs.Prelude.{◌&&◌, ◌||◌, ◌∷◌, ◌++◌, ◌≡◌}
use Rattle.laws.proofs.Common.{ℕ, Bool, true, false, not, List, [], refl, sym, ap, subst}
use Rattle.laws.proofs.Common.{subst₂, ◌∙◌, not-true, eqb, ltb, length, get_or, when◌then◌else◌, and_both}
use Rattle.word_order.specs.Ledger.{sent, kept, lost_of}
use Rattle.word_order.specs.Machine.{Watched, watched_call, watched_calls, entered, InOrder}
use Rattle.card_rules.specs.Calls.{Call, Outcome, perform_of, said_of, sdo_of, right_next}
use Rattle.card_rules.specs.Examples.{output_number}
use Rattle.card_rules.specs.Figures.{protocol_number, right_follows, sck_expected, lrck_expected, sdo_expected, card_terms}
use Rattle.card_rules.specs.Watch.{port_of, Sight, edges_after, entry_of, watching, powered_up_card, life}
use Rattle.card_rules.specs.CardDemands.{asks, is_kind, first_number, rows, Answered, was_done, takes, waiting_expected, Changes, took_after, took_from, took, Shows, output_seen, CardDemands}
use Rattle.laws.proofs.Claims.{Claim, level, number, numbers, provided, AllHold, none, ◌also◌, all_judged, all_judged_lem}

-- A watched card x, a call c with its outcome o, and the watched card y after it. They are handed on as arguments, so that each is computed
-- once in a run.
module _ (x : Watched watching) (c : Call) (o : Outcome) (y : Watched watching) where
  abbrev answers : List Claim
  answers =
      number (said_of o.answer).number (first_number (rows x.now c))
      ∷ number (said_of o.answer).told (when x.now.enabled && is_kind 5 c then get_or x.now.engine.unread 0 0 else 0)
      ∷ []

  abbrev said : ℕ
  said = (said_of o.answer).number

  abbrev changes : List Claim
  changes =
      level y.now.enabled (is_kind 2 c || (x.now.enabled && not (is_kind 3 c)))
      ∷ number (protocol_number y.now.settings.protocol) (when was_done x y c said 0 then (asks c).first else protocol_number x.now.settings.protocol)
      ∷ number y.now.settings.bits (when was_done x y c said 1 then (asks c).first else x.now.settings.bits)
      ∷ number y.now.settings.frame (when was_done x y c said 1 then (asks c).second else x.now.settings.frame)
      ∷ level y.now.engine.flags.underrun
      (not (is_kind 7 c) && (x.now.engine.flags.underrun || (takes x y c said && eqb (length x.now.engine.waiting) 0)))
      ∷ level y.now.engine.flags.overflow
      (not (is_kind 8 c) && (x.now.engine.flags.overflow || ltb (lost_of x.ledger) (lost_of y.ledger)))
      ∷ numbers y.now.engine.waiting (waiting_expected x y c said)
      ∷ provided (not y.now.enabled) (numbers y.now.engine.unread [])
      ∷ provided (not y.now.enabled) (level y.now.engine.pins.sck x.now.engine.pins.sck)
      ∷ provided (not y.now.enabled) (level y.now.engine.pins.lrck x.now.engine.pins.lrck)
      ∷ provided (not y.now.enabled) (level y.now.engine.pins.sdo x.now.engine.pins.sdo)
      ∷ []

-- What is said of a watched card between calls, with the samples that its channels took.
module _ (y : Watched watching) (samples : List ℕ) where
  abbrev shown : List Claim
  shown =
      level y.now.engine.pins.sck (sck_expected y.now.settings y.memory)
      ∷ level y.now.engine.pins.lrck (lrck_expected y.now.settings y.memory)
      ∷ level y.now.engine.pins.sdo (sdo_expected y.now.settings samples y.memory)
      ∷ level (right_next y.now) (right_follows y.now.settings y.memory)
      ∷ numbers y.ledger.accepted (sent y.ledger ++ (port_of y.now.engine).owed)
      ∷ numbers (kept y.ledger) (y.ledger.read ++ y.now.engine.unread)
      ∷ []

  abbrev seen_outside : List Claim
  seen_outside =
      number (output_number (sdo_of y.now)) (output_number (output_seen y.now))
      ∷ provided (not y.now.enabled) (level (right_next y.now) false)
      ∷ []

-- All that the page says at a call.
unfoldable pub unless : Bool → List Claim → Bool
unless b ks = not b || all_judged ks

unfoldable pub judged_at : Watched watching → Call → Outcome → Watched watching → List ℕ → Bool
judged_at x c o y samples =
    all_judged (answers x c o y)
    && (all_judged (changes x c o y) && (unless y.now.enabled (shown y samples) && all_judged (seen_outside y samples)))

-- The tests at every call of a list.
unfoldable pub seen : Watched watching → Call → (Watched watching → List ℕ → Bool) → Outcome → Watched watching → List ℕ → Bool
seen x c rest o y samples = judged_at x c o y samples && rest y samples

unfoldable pub made : Watched watching → List ℕ → Call → (Watched watching → List ℕ → Bool) → Outcome → Bool
made x samples c rest o =
    let s : Sight = record { enabled = x.now.enabled; settings = x.now.settings; sdo = x.now.engine.pins.sdo; answer = o.answer } in
    seen x c rest o
    (record {
      now = o.after;
      memory = edges_after x.memory s c;
      ledger = entered (card_terms x.now.settings) (entry_of x.memory s c) x.ledger;
    })
    (took_after x samples c)

unfoldable pub run : List Call → Watched watching → List ℕ → Bool
run [] x samples = true
run (c ∷ cs) x samples = made x samples c (run cs) (perform_of x.now c)

-- The claims are the page's statements.
answers_said : Answered → (x : Watched watching) (c : Call) → AllHold (answers x c (perform_of x.now c) (watched_call watching x c))
answers_said p x c = p.refused_exactly x.now c also p.tells x.now c also none

changes_said : (x y : Watched watching) (c : Call) → Changes x y c (said_of (perform_of x.now c).answer).number → AllHold (changes x c (perform_of x.now c) y)
changes_said x y c k =
    k.enabled also k.protocol also k.bits also k.frame also k.underrun also k.overflow also k.waiting also k.unread also k.sck also k.lrck also k.level also none

shown_said : (y : Watched watching) (samples : List ℕ) → Shows y samples → InOrder watching y → AllHold (shown y samples)
shown_said y samples s w =
    s.sck also s.lrck also s.sdo also s.channel also w.sending also w.receiving also none

outside_said : (y : Watched watching) (samples : List ℕ) → sdo_of y.now ≡ output_seen y.now →
    (not y.now.enabled ≡ true → right_next y.now ≡ false) → AllHold (seen_outside y samples)
outside_said y samples e rests = ap output_number e also rests also none

unless_said : (b : Bool) (ks : List Claim) → (b ≡ true → AllHold ks) → unless b ks ≡ true
unfolding unless
unless_said true ks h = all_judged_lem (h refl)
unless_said false ks h = refl

-- A call more.
life_on : (x : Watched watching) (cs : List Call) (c : Call) →
    watched_calls watching x (cs ++ (c ∷ [])) ≡ watched_call watching (watched_calls watching x cs) c
life_on x [] c = refl
life_on x (d ∷ ds) c = life_on (watched_call watching x d) ds c

took_on : (x : Watched watching) (samples : List ℕ) (cs : List Call) (c : Call) →
    took_from x samples (cs ++ (c ∷ [])) ≡ took_after (watched_calls watching x cs) (took_from x samples cs) c
took_on x samples [] c = refl
took_on x samples (d ∷ ds) c = took_on (watched_call watching x d) (took_after x samples d) ds c

module _ (p : CardDemands) where
  page_judged : (cs : List Call) (c : Call) →
      judged_at (life cs) c (perform_of (life cs).now c) (watched_call watching (life cs) c) (took_after (life cs) (took cs) c) ≡ true
  unfolding judged_at
  page_judged cs c =
      let x : Watched watching = life cs in
      let y : Watched watching = watched_call watching x c in
      let later : life (cs ++ (c ∷ [])) ≡ y = life_on powered_up_card cs c in
      let more : took (cs ++ (c ∷ [])) ≡ took_after x (took cs) c = took_on powered_up_card [] cs c in
      let rests : not y.now.enabled ≡ true → right_next y.now ≡ false =
      λ off.
      ap (λ (w : Watched watching). right_next w.now) (sym later)
      ∙ p.rests (cs ++ (c ∷ [])) (ap (λ (w : Watched watching). w.now.enabled) later ∙ not-true y.now.enabled off) in
      and_both _ _ (all_judged_lem (answers_said p.answered x c))
      (and_both _ _ (all_judged_lem (changes_said x y c (p.changes cs c)))
      (and_both _ _
      (unless_said y.now.enabled (shown y (took_after x (took cs) c))
      (λ e.
      let on : (life (cs ++ (c ∷ []))).now.enabled ≡ true = ap (λ (w : Watched watching). w.now.enabled) later ∙ e in
      shown_said y (took_after x (took cs) c) (subst₂ Shows later more (p.shows (cs ++ (c ∷ [])) on))
      (subst (InOrder watching) later (p.word_order (cs ++ (c ∷ [])) on))))
      (all_judged_lem (outside_said y (took_after x (took cs) c) (p.output y.now) rests))))

  run_on : (before cs : List Call) → run cs (life before) (took before) ≡ true
  unfolding run made seen
  run_on before [] = refl
  run_on before (c ∷ cs) =
      and_both _ _ (page_judged before c)
      (subst₂ (λ (w : Watched watching) (q : List ℕ). run cs w q ≡ true) (life_on powered_up_card before c) (took_on powered_up_card [] before c)
      (run_on (before ++ (c ∷ [])) cs))

  -- If the page holds, every run from power-up is true.
  pub page_runs : (cs : List Call) → run cs powered_up_card [] ≡ true
  page_runs cs = run_on [] cs
