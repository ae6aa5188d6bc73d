-- How far a linked run brings its host, from the edges that the host owes (proofs/OwedCalls.antt).
--     owed_most        no module that calls reach owes more than 544 edges
--     link_pays        the edges used are what the host's debt fell by
--     link_uses_owed   with a limit of at least what the host owes, exactly that is used and the host is idle
--     link_uses_limit  with a limit of at most that, exactly the limit is used
-- Assumes nothing.
use Rattle.std.specs.Prelude.{◌+◌, ◌*◌, ◌≤◌, ◌<◌, ◌||◌, ◌∷◌, ◌≡◌, Ok}
use Rattle.laws.proofs.Common.{ℕ, zero, suc, Bool, true, false, not, List, [], refl, sym}
use Rattle.laws.proofs.Common.{ap, subst, ◌∙◌, le_trans, mul-le-mul, arith, ltb-true, ltb-false, ltb, length, if_keeps}
use Rattle.laws.proofs.Common.{by_test, and-false, and_left, and_both, clash}
use native.Mathlib.Nat.{sub-le}
use Rattle.module_rules.proofs.Types.{Sixteen, Settings, Module, Outcome, Shift, Free, Loaded, Begun, NoEdge, Call}
use Rattle.module_rules.specs.Settings.{width_of, words_of, depth_of, clock_stops, ssen_client, own_clock, unframed_host}
use Rattle.module_rules.specs.Refusals.{is_done, is_edge}
use Rattle.module_rules.specs.Calls.{after_calls, refuse, answering, tick_of, sdo_of, perform_of}
use Rattle.module_rules.specs.Invariant.{ModuleHolds}
use Rattle.module_rules.specs.Words.{unfinished, left_buffer, waiting_in}
use Rattle.module_rules.specs.Demands.{IsIdle}
use Rattle.module_rules.proofs.Sizes.{width_most, depth_most}
use Rattle.module_rules.proofs.BuffersOrder.{waiting_length}
use Rattle.module_rules.proofs.ClockSteps.{stands, tick_cases, tick_stands, tick_own}
use Rattle.module_invariant.proofs.RefusalsUnchanged.{no_edge_unchanged}
use Rattle.module_invariant.proofs.Holds.{call_keeps}
use Rattle.module_edges_owed.proofs.Parts.{given_in, owed_in, AllUndisturbing}
use Rattle.module_edges_owed.proofs.Calls.{calls_pay, calls_leave, none_owed_idle, no_edge_owes_none}
use Rattle.link_rules.specs.declared.Run.{Run}
use Rattle.link_rules.specs.declared.Linked.{Linked}
use Rattle.link_rules.specs.Link.{most_edges, made_edge, run_stops, one_more, host_turn, told_of, linked_of}
use Rattle.link_rules.specs.LinkDemands.{read_as, tick_beside, host_calls, run_host_calls}
use Rattle.link_page.proofs.LinkRuns.{Allowed, allowed_accepts, link_when, link_is, edge_is, ticked, turn_is, run_is, link_calls_lem, link_counts, link_within_limit}

-- At most one word has left the transmit buffer and is not finished.
pub one_unfinished : (s : Settings) (sh : Shift) → length (unfinished s sh) ≤ 1
one_unfinished s Free = omega arith
one_unfinished s (Loaded word) = omega arith
one_unfinished s (Begun p) =
    if_keeps (λ (l : List ℕ). length l ≤ 1) (p.filler || ssen_client s) [] (p.word ∷ []) (λ e. omega arith) (λ e. omega arith)

-- No module that calls reach owes more edges than a full buffer and one more word of 16 bits take.
pub owed_most : (m : Module) → ModuleHolds m → owed_in m ≤ most_edges
owed_most m h =
    let words : length (left_buffer m) + length (waiting_in m) ≤ words_of Sixteen + 1 =
    omega (arith, one_unfinished m.settings m.engine.shift, waiting_length (depth_of m.settings) m.engine.transmit, h.transmit.fits, depth_most m.settings) in
    let edges : 2 * width_of m.settings ≤ 2 * 16 = omega (arith, width_most m.settings) in
    le_trans (sub-le _ (given_in m.engine.shift)) (mul-le-mul edges words)

-- A tick leaves the settings.
tick_settings : (m : Module) (sdi ss : Bool) → (tick_of m sdi ss).after.settings ≡ m.settings
unfolding refuse answering
tick_settings m sdi ss =
    tick_cases m sdi ss (λ (o : Outcome). o.after.settings ≡ m.settings) refl refl (λ on own still. refl) (λ on own moves. refl)

-- A tick of an enabled host with its own clock that makes no edge says so.
tick_none : (m : Module) (sdi ss : Bool) → m.settings.spien ≡ true → own_clock m.settings ≡ true →
    made_edge (tick_of m sdi ss).answer ≡ false → (tick_of m sdi ss).answer ≡ NoEdge
unfolding answering made_edge
tick_none m sdi ss on own none =
    by_test (stands m)
    (λ still. ap (λ (o : Outcome). o.answer) (tick_stands m sdi ss on own still))
    (λ moves. clash true refl (sym (ap (λ (o : Outcome). made_edge o.answer) (tick_own m sdi ss on own moves)) ∙ none))

-- The same of the host's tick in a run.
ticked_settings : (host client : Module) → (ticked host client).after.settings ≡ host.settings
unfolding perform_of
ticked_settings host client = tick_settings host (read_as (sdo_of client)) false

pub ticked_none : (host client : Module) → host.settings.spien ≡ true → own_clock host.settings ≡ true →
    is_edge (ticked host client).answer ≡ false → (ticked host client).answer ≡ NoEdge
unfolding perform_of
ticked_none host client on own e =
    tick_none host (read_as (sdo_of client)) false on own (edge_is (ticked host client).answer ∙ e)

-- The host's calls leave it undisturbed: they are ticks.
turn_undisturbed : (left : ℕ) (host client : Module) → host.settings.spien ≡ true →
    AllUndisturbing host (host_calls left host client)
unfolding host_calls
turn_undisturbed zero host client on = tt
turn_undisturbed (suc left) host client on =
    let o : Outcome = ticked host client in
    let still : o.after.settings.spien ≡ true = ap (λ (s : Settings). s.spien) (ticked_settings host client) ∙ on in (
      record { enabled = still; no_word = and-false (is_done o.answer) false refl },
      if_keeps (λ (cs : List Call). AllUndisturbing o.after cs) (is_edge o.answer) _ _
          (λ e. turn_undisturbed left o.after _ still)
          (λ e. tt),
    )

-- A turn that leaves edges of the limit leaves a host that owes none.
turn_stops : (left : ℕ) (host client : Module) → ModuleHolds host → host.settings.spien ≡ true →
    unframed_host host.settings ≡ true → (host_turn left host client).used < left → owed_in (host_turn left host client).host ≡ 0
unfolding host_turn one_more run_stops
turn_stops zero host client h on own = λ k. absurd (omega (arith, k))
turn_stops (suc left) host client h on own =
    let c : Call = tick_beside client in
    let o : Outcome = ticked host client in
    let same : o.after.settings ≡ host.settings = ticked_settings host client in
    subst (λ (r : Run). r.used < suc left → owed_in r.host ≡ 0) (sym (turn_is left host client))
    (if_keeps (λ (r : Run). r.used < suc left → owed_in r.host ≡ 0) (is_edge o.answer) _ _
    (λ e k.
    turn_stops left o.after _ (call_keeps host c h) (ap (λ (s : Settings). s.spien) same ∙ on) (ap unframed_host same ∙ own)
    (omega (arith, k)))
    (λ e k.
    let none : o.answer ≡ NoEdge = ticked_none host client on (and_left _ (clock_stops host.settings) own) e in
    ap owed_in (no_edge_unchanged host c none) ∙ no_edge_owes_none host h on own _ false none))

-- A host in a run that is not refused is enabled, has its own clock and is unframed.
pub host_on_lem : (host client : Module) (limit : ℕ) → Allowed host client limit → host.settings.spien ≡ true
host_on_lem host client limit a = (allowed_accepts host client limit a).host_on

pub host_own : (host client : Module) (limit : ℕ) → Allowed host client limit → unframed_host host.settings ≡ true
host_own host client limit a =
    let is = allowed_accepts host client limit a in and_both (own_clock host.settings) _ is.own (ap not is.unframed)

module _ (host client : Module) (limit n : ℕ) (h : ModuleHolds host) (e : (linked_of host client limit).answer ≡ Ok n) where
  -- What the tests have found.
  allowed : Allowed host client limit
  allowed = (link_when host client limit n e).0

  -- The host in the end.
  host-after : (linked_of host client limit).host ≡ after_calls host (run_host_calls host client limit)
  host-after = (link_calls_lem host client limit n e).0

  -- The host's calls leave it undisturbed.
  undisturbed : AllUndisturbing host (run_host_calls host client limit)
  unfolding run_host_calls
  undisturbed = turn_undisturbed limit host _ (host_on_lem host client limit allowed)

  -- The edges used are what the host's debt fell by.
  pub link_pays : n + owed_in (linked_of host client limit).host ≡ owed_in host
  link_pays =
      let pays =
      calls_pay (run_host_calls host client limit) host h (host_on_lem host client limit allowed)
      (host_own host client limit allowed) undisturbed in
      rw host-after (omega (arith, pays, link_counts host client limit n e))

  -- No more is used than the limit, and if less is used the host owes nothing more.
  within : n ≤ limit
  within = link_within_limit host client limit n e

  stopped : n < limit → owed_in (linked_of host client limit).host ≡ 0
  unfolding told_of
  stopped short =
      let is = run_is host client limit in
      ap (λ (l : Linked). owed_in l.host) (link_is host client limit allowed)
      ∙ ap (λ (r : Run). owed_in r.host) is
      ∙ turn_stops limit host _ h (host_on_lem host client limit allowed) (host_own host client limit allowed)
      (subst (λ (k : ℕ). k < limit) (sym (link_when host client limit n e).1 ∙ ap (λ (r : Run). r.used) is) short)

  by-limit : {A : Type 0} → (owed_in (linked_of host client limit).host ≡ 0 → A) → (limit ≤ n → A) → A
  by-limit none full = by_test (ltb n limit) (λ f. none (stopped (ltb-true n limit f))) (λ f. full (ltb-false n limit f))

  -- With a limit of at least what the host owes, exactly that is used, and the host is idle.
  pub link_uses_owed : owed_in host ≤ limit → (n ≡ owed_in host) × IsIdle (linked_of host client limit).host
  link_uses_owed most =
      let pays = link_pays in
      let all : n ≡ owed_in host = by-limit (λ none. omega arith) (λ full. omega (arith, within)) in
      let left =
      calls_leave (run_host_calls host client limit) host h (host_on_lem host client limit allowed)
      (host_own host client limit allowed) undisturbed in
      (all, rw host-after (none_owed_idle _ left.0 left.1 left.2 (let rest = rw host-after at pays in omega arith)))

  -- With a limit of at most that, exactly the limit is used.
  pub link_uses_limit : limit ≤ owed_in host → n ≡ limit
  link_uses_limit least = let pays = link_pays in by-limit (λ none. omega (arith, within)) (λ full. omega (arith, within))
