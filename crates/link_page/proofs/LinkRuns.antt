-- What a linked run does at each end.
--     Accepts, accepts          what the tests leave of the settings of both ends
--     link_when, link_is        a run that is not refused has passed every test, and is then the run
--     link_refused_unchanged    a refused run leaves both modules as they were
--     turn_is, run_is           a turn and a run by the page's calls
--     Ran                       what a run comes to at both ends
--     link_calls_lem                a run does to each end what the calls that it makes there do
--     link_counts               the edges used are the edges that the host's calls make
--     link_holds_lem                both ends keep the invariant, whatever the limit
--     link_within_limit         the edges used are never above the limit
-- Assumes nothing.
use Rattle.std.specs.Prelude.{◌≤◌, ◌&&◌, ◌||◌, ◌≡◌, Result, Ok, Err}
use Rattle.laws.proofs.Common.{ℕ, zero, suc, zero-le, Bool, true, false, not, Bool·beq, List, refl, sym}
use Rattle.laws.proofs.Common.{ap, ap₂, subst, ◌∙◌, arith, not-false, eqb-true, ltb, eqb, when◌then◌else◌, by_test, if_keeps}
use Rattle.laws.proofs.Common.{if_false, clash, or_left, or_right, like}
use Rattle.module_rules.proofs.Types.{Settings, Module, Outcome, Refusal, Disabled, WrongClock, DifferentModes, TooManyEdges}
use Rattle.module_rules.proofs.Types.{Answer, Refused, Done, Value, NoEdge, Edge, Output, Low, High, Undriven, Call}
use Rattle.module_rules.specs.Settings.{width_of, framed, cke_of, own_clock}
use Rattle.module_rules.specs.Calls.{after_calls, tick_of, pins_of, perform_of, sck_of, sdo_of}
use Rattle.module_rules.specs.Invariant.{ModuleHolds}
use Rattle.module_rules.specs.Refusals.{said_of, is_edge}
use Rattle.module_rules.specs.Demands.{edges_made}
use Rattle.module_invariant.proofs.Holds.{calls_keep}
use Rattle.link_rules.specs.declared.Run.{Run}
use Rattle.link_rules.specs.declared.Linked.{Linked}
use Rattle.link_rules.specs.Link.{most_edges, level_read, made_edge, host_ticked, client_sees, run_stops, one_more, client_turn, handed_over, host_turn, run_of, either_disabled, wrong_roles, different_modes, refuse_link, told_of, linked_of}
use Rattle.link_rules.specs.LinkDemands.{read_as, tick_beside, pins_beside, host_calls, client_calls, run_host_calls, run_client_calls}

-- An answer that tells of edges is no refusal.
abbrev tells_edges : Result ℕ Refusal → Bool
tells_edges (Err r) = false
tells_edges (Ok n) = true

-- A run that may be refused by a test and is not has passed the test.
passes : (host client : Module) (r : Refusal) (n : ℕ) (b : Bool) (l : Linked) →
    (when b then refuse_link host client r else l).answer ≡ Ok n → (b ≡ false) × (l.answer ≡ Ok n)
unfolding when◌then◌else◌ refuse_link
passes host client r n true l e = clash (tells_edges (Ok n)) refl (sym (ap tells_edges e))
passes host client r n false l e = (refl, e)

-- What every test of a run has found if the run is not refused.
pub record Allowed (host client : Module) (limit : ℕ) : Type 0 where
  pub limited : ltb most_edges limit ≡ false
  pub enabled : either_disabled host.settings client.settings ≡ false
  pub roles : wrong_roles host.settings client.settings ≡ false
  pub alike : different_modes host.settings client.settings ≡ false

-- What the tests leave of the settings of both ends.
pub record Accepts (s u : Settings) : Type 0 where
  pub host_on : s.spien ≡ true
  pub own : own_clock s ≡ true
  pub unframed : framed s ≡ false
  pub client_on : u.spien ≡ true
  pub is_client : u.con1.msten ≡ false
  pub client_unframed : framed u ≡ false
  pub ckp : s.con1.ckp ≡ u.con1.ckp
  pub cke : cke_of s ≡ cke_of u
  pub width : width_of s ≡ width_of u

-- Levels whose likeness is not denied are alike.
alike : (a b : Bool) → not (Bool·beq a b) ≡ false → a ≡ b
alike a b e = like a b (not-false (Bool·beq a b) e)

pub accepts : (s u : Settings) → either_disabled s u ≡ false → wrong_roles s u ≡ false → different_modes s u ≡ false → Accepts s u
accepts s u enabled roles modes =
    let host-role : (not (own_clock s) || framed s) ≡ false = or_left _ _ roles in
    let client-role : (u.con1.msten || framed u) ≡ false = or_right (not (own_clock s) || framed s) _ roles in
    let host-plain : framed s ≡ false = or_right (not (own_clock s)) _ host-role in
    let client-plain : framed u ≡ false = or_right u.con1.msten _ client-role in
    let rest : (not (Bool·beq s.con1.cke u.con1.cke) || not (eqb (width_of s) (width_of u))) ≡ false =
    or_right (not (Bool·beq s.con1.ckp u.con1.ckp)) _ modes in
    record {
      host_on = not-false s.spien (or_left _ (not u.spien) enabled);
      own = not-false (own_clock s) (or_left _ (framed s) host-role);
      unframed = host-plain;
      client_on = not-false u.spien (or_right (not s.spien) _ enabled);
      is_client = or_left _ (framed u) client-role;
      client_unframed = client-plain;
      ckp = alike _ _ (or_left _ _ modes);
      cke = ap₂ (λ (f c : Bool). not f && c) (host-plain ∙ sym client-plain) (alike _ _ (or_left _ _ rest));
      width =
          eqb-true _ _ (not-false (eqb (width_of s) (width_of u)) (or_right (not (Bool·beq s.con1.cke u.con1.cke)) _ rest));
    }

module _ (host client : Module) (limit : ℕ) where
  pub allowed_accepts : Allowed host client limit → Accepts host.settings client.settings
  allowed_accepts a = accepts host.settings client.settings a.enabled a.roles a.alike

  -- A run that is not refused has passed every test, and tells its edges.
  pub link_when : (n : ℕ) → (linked_of host client limit).answer ≡ Ok n →
      Allowed host client limit × ((run_of host client limit).used ≡ n)
  unfolding linked_of told_of
  link_when n e =
      let p = passes host client TooManyEdges n (ltb most_edges limit) _ e in
      let q = passes host client Disabled n (either_disabled host.settings client.settings) _ p.1 in
      let v = passes host client WrongClock n (wrong_roles host.settings client.settings) _ q.1 in
      let w = passes host client DifferentModes n (different_modes host.settings client.settings) _ v.1 in
      let told : Ok (run_of host client limit).used ≡ Ok n = w.1 in
      (record { limited = p.0; enabled = q.0; roles = v.0; alike = w.0 }, cc)

  -- A run that passes every test is the run.
  pub link_is : Allowed host client limit → linked_of host client limit ≡ told_of (run_of host client limit)
  unfolding linked_of
  link_is a =
      if_false (ltb most_edges limit) _ _ a.limited
      ∙ if_false (either_disabled host.settings client.settings) _ _ a.enabled
      ∙ if_false (wrong_roles host.settings client.settings) _ _ a.roles
      ∙ if_false (different_modes host.settings client.settings) _ _ a.alike

-- A choice between two runs has what both have.
either_link : (P : Linked → Type 0) (b : Bool) (x y : Linked) → P x → P y → P (when b then x else y)
either_link P b x y h k = if_keeps P b x y (λ e. h) (λ e. k)

-- What a run has if its refusals have it, and the run has it.
link_keeps : (P : Linked → Type 0) (host client : Module) (limit : ℕ) → ((r : Refusal) → P (refuse_link host client r)) →
    P (told_of (run_of host client limit)) → P (linked_of host client limit)
unfolding linked_of
link_keeps P host client limit h k =
    either_link P (ltb most_edges limit) _ _ (h TooManyEdges)
    (either_link P (either_disabled host.settings client.settings) _ _ (h Disabled)
    (either_link P (wrong_roles host.settings client.settings) _ _ (h WrongClock)
    (either_link P (different_modes host.settings client.settings) _ _ (h DifferentModes) k)))

-- A refused run leaves both modules as they were.
pub link_refused_unchanged : (host client : Module) (limit : ℕ) (r : Refusal) →
    (linked_of host client limit).answer ≡ Err r →
    ((linked_of host client limit).host ≡ host) × ((linked_of host client limit).client ≡ client)
unfolding refuse_link told_of
link_refused_unchanged host client limit r =
    link_keeps (λ (l : Linked). l.answer ≡ Err r → (l.host ≡ host) × (l.client ≡ client)) host client limit
    (λ s e. (refl, refl))
    (λ e. clash true refl (ap tells_edges e))

-- The run is that of the page's calls: what is read of a pin, the answer that makes an edge, the host's tick, and what the client sees.
level_is : (o : Output) → level_read o ≡ read_as o
unfolding level_read
level_is Low = refl
level_is High = refl
level_is Undriven = refl

pub edge_is : (a : Answer) → made_edge a ≡ is_edge a
unfolding made_edge
edge_is (Refused r) = refl
edge_is Done = refl
edge_is (Value v) = refl
edge_is NoEdge = refl
edge_is Edge = refl

tick_is : (host client : Module) → host_ticked host client ≡ perform_of host (tick_beside client)
unfolding host_ticked perform_of
tick_is host client = ap (λ (b : Bool). tick_of host b false) (level_is (sdo_of client))

sees_is : (host client : Module) → client_sees host client ≡ (perform_of client (pins_beside host)).after
unfolding client_sees perform_of
sees_is host client = ap (λ (b : Bool). (pins_of client (sck_of host) b false).after) (level_is (sdo_of host))

-- A turn by those calls: the host ticks, and after an edge the client is shown the new levels and the host has its next turn.
abbrev pub ticked : Module → Module → Outcome
ticked host client = perform_of host (tick_beside client)

abbrev pub shown : Module → Module → Module
shown host client = (perform_of client (pins_beside host)).after

abbrev pub turned : ℕ → Module → Module → Run
turned left host client =
    let o : Outcome = ticked host client in
    when is_edge o.answer then one_more (host_turn left o.after (shown o.after client)) else run_stops o.after client

pub turn_is : (left : ℕ) (host client : Module) → host_turn (suc left) host client ≡ turned left host client
unfolding host_turn handed_over client_turn
turn_is left host client =
    let o : Outcome = ticked host client in
    ap (λ (o : Outcome). handed_over (host_turn left) o client) (tick_is host client)
    ∙ ap₂ (λ (b : Bool) (m : Module). when b then one_more (host_turn left o.after m) else run_stops o.after client)
    (edge_is o.answer) (sees_is o.after client)

-- An edge counts one, and nothing else does.
edge_counts : (a : Answer) → (said_of a).edges ≡ (when is_edge a then 1 else 0)
unfolding when◌then◌else◌
edge_counts (Refused r) = refl
edge_counts Done = refl
edge_counts (Value v) = refl
edge_counts NoEdge = refl
edge_counts Edge = refl

-- A run does to each end what its calls there do; the edges used are those that the host's calls make, and no more than were left.
pub record Ran (left : ℕ) (host client : Module) (r : Run) (hosts clients : List Call) : Type 0 where
  pub host_does : r.host ≡ after_calls host hosts
  pub client_does : r.client ≡ after_calls client clients
  pub counts : r.used ≡ edges_made host hosts
  pub within : r.used ≤ left

-- So it is from the host's turn on.
turn_ran : (left : ℕ) (host client : Module) →
    Ran left host client (host_turn left host client) (host_calls left host client) (client_calls left host client)
unfolding host_turn one_more run_stops host_calls client_calls when◌then◌else◌
turn_ran zero host client = record { host_does = refl; client_does = refl; counts = refl; within = zero-le }
turn_ran (suc left) host client =
    let o : Outcome = ticked host client in
    let rest = turn_ran left o.after (shown o.after client) in
    let said = edge_counts o.answer in
    subst (λ (r : Run). Ran (suc left) host client r (host_calls (suc left) host client) (client_calls (suc left) host client))
    (sym (turn_is left host client))
    (by_test (is_edge o.answer)
    (λ edge.
    rw edge
    (record {
      host_does = rest.host_does;
      client_does = rest.client_does;
      counts = omega (arith, rw edge at said, rest.counts);
      within = omega (arith, rest.within);
    }))
    (λ none. rw none (record { host_does = refl; client_does = refl; counts = omega (arith, rw none at said); within = zero-le })))

-- A run by those calls: it begins by showing the client the host's levels.
pub run_is : (host client : Module) (limit : ℕ) → run_of host client limit ≡ host_turn limit host (shown host client)
unfolding run_of
run_is host client limit = ap (host_turn limit host) (sees_is host client)

-- So it is of the whole run.
run_ran : (host client : Module) (limit : ℕ) →
    Ran limit host client (run_of host client limit) (run_host_calls host client limit) (run_client_calls host client limit)
unfolding run_host_calls run_client_calls
run_ran host client limit =
    let t = turn_ran limit host (shown host client) in
    rw (run_is host client limit)
    (record { host_does = t.host_does; client_does = t.client_does; counts = t.counts; within = t.within })

-- A linked run that is not refused does to each end what the calls that it makes there do.
pub link_calls_lem : (host client : Module) (limit n : ℕ) → (linked_of host client limit).answer ≡ Ok n →
    ((linked_of host client limit).host ≡ after_calls host (run_host_calls host client limit))
    × ((linked_of host client limit).client ≡ after_calls client (run_client_calls host client limit))
unfolding told_of
link_calls_lem host client limit n e =
    let is = link_is host client limit (link_when host client limit n e).0 in (
      ap (λ (l : Linked). l.host) is ∙ (run_ran host client limit).host_does,
      ap (λ (l : Linked). l.client) is ∙ (run_ran host client limit).client_does,
    )

-- The edges used are the host's only: those that its calls make.
pub link_counts : (host client : Module) (limit n : ℕ) → (linked_of host client limit).answer ≡ Ok n →
    n ≡ edges_made host (run_host_calls host client limit)
link_counts host client limit n e = sym (link_when host client limit n e).1 ∙ (run_ran host client limit).counts

-- Both ends keep the invariant, refused or not.
pub link_holds_lem : (host client : Module) (limit : ℕ) → ModuleHolds host → ModuleHolds client →
    ModuleHolds (linked_of host client limit).host × ModuleHolds (linked_of host client limit).client
unfolding refuse_link told_of
link_holds_lem host client limit h k =
    link_keeps (λ (l : Linked). ModuleHolds l.host × ModuleHolds l.client) host client limit
    (λ r. (h, k)) (
      rw (run_ran host client limit).host_does (calls_keep (run_host_calls host client limit) host h),
      rw (run_ran host client limit).client_does (calls_keep (run_client_calls host client limit) client k),
    )

-- The edges used are never above the limit.
pub link_within_limit : (host client : Module) (limit n : ℕ) → (linked_of host client limit).answer ≡ Ok n → n ≤ limit
link_within_limit host client limit n e = omega (arith, (run_ran host client limit).within, (link_when host client limit n e).1)
