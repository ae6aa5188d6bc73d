-- A linked run step by step, by what is seen of its ends.
--     matched                   the tests of a run leave settings that match
--     shown, running_shown      the client sees the host's levels, and is selected then
--     ends, stops, hands_over   the host's turn: none left, no word, or an edge
--     word_first                a word at both ends before it
-- Assumes nothing.
use Rattle.std.specs.Prelude.{◌-◌, ◌≤◌, ◌&&◌, ◌≡◌}
use Rattle.laws.proofs.Common.{ℕ, zero, suc, Bool, true, false, not, refl, sym, ap, ap₂, subst, ◌∙◌}
use Rattle.laws.proofs.Common.{arith, when◌then◌else◌, and-false, and_both, by_case}
use native.Mathlib.Numerals.{unary_clauses}
use Rattle.module_rules.proofs.Types.{Settings, Engine, Module, Outcome, NoEdge, Edge}
use Rattle.module_rules.specs.Settings.{clock_stops, ssen_client, own_clock}
use Rattle.module_rules.specs.Registers.{is_free}
use Rattle.module_rules.specs.Select.{deselected}
use Rattle.module_rules.specs.Edge.{word_edges, levels, stepped}
use Rattle.module_rules.proofs.ClockSteps.{tick_stands}
use Rattle.module_rules.specs.Calls.{answering, perform_of, sck_of, sdo_of}
use Rattle.module_invariant.proofs.CallsWhen.{own_not_client, tick_is, pin_is, told_elsewhere, unframed_told}
use Rattle.module_invariant.proofs.Select.{stepped_select}
use Rattle.link_rules.specs.declared.Run.{Run}
use Rattle.link_rules.specs.Link.{level_read, made_edge, host_ticked, client_sees, run_stops, client_turn, handed_over, host_turn, either_disabled, wrong_roles, different_modes}
use Rattle.link_page.proofs.LinkRuns.{accepts}
use Rattle.link_page.proofs.LinkLevels.{level_read_lem}
use Rattle.word_rules.specs.Word.{word_of}
use Rattle.link_words.specs.LinkWords.{Matched, Running, at_beginning, heard_of, further, word_then_turns}
use Rattle.link_words.proofs.WordTurns.{word_at_once}
use Rattle.module_answers.specs.Answered.{turned}
use Rattle.module_answers.proofs.Edges.{own_turn}
use Rattle.link_calls.specs.Wire.{open_level}

-- A module after a step of its engine.
abbrev on : (Settings → Engine → Engine) → Module → Module
on f m = record { settings = m.settings; engine = f m.settings m.engine }

pub matched : (s u : Settings) → either_disabled s u ≡ false → wrong_roles s u ≡ false → different_modes s u ≡ false → Matched s u
matched s u enabled roles modes =
    let is = accepts s u enabled roles modes in
    record {
      host_on = is.host_on;
      own = is.own;
      unframed = is.unframed;
      client_on = is.client_on;
      is_client = is.is_client;
      client_unframed = is.client_unframed;
      ckp = is.ckp;
      cke = is.cke;
      width = is.width;
    }

module_level : (m : Module) → m.settings.spien ≡ true → deselected m.settings m.engine.pins.ss ≡ false →
    open_level m ≡ level_read (sdo_of m)
unfolding open_level
module_level = level_read_lem

module _ (host client : Module) (l : Matched host.settings client.settings) where
  host_level : open_level host ≡ level_read (sdo_of host)
  host_level =
      module_level host l.host_on
      (ap (λ (b : Bool). b && host.engine.pins.ss) (own_not_client host.settings l.own))

  client-level : client.engine.pins.ss ≡ false → open_level client ≡ level_read (sdo_of client)
  client-level low = module_level client l.client_on (and-false (ssen_client client.settings) _ low)

  pub shown : on (λ s. stepped s (levels host.engine.pins.sck (open_level host) false)) client ≡ client_sees host client
  unfolding client_sees sck_of perform_of answering
  shown =
      let pin : own_clock client.settings ≡ false =
      ap (λ (b : Bool). b && not client.settings.con1.dissck) l.is_client in
      ap (λ (x : Bool). on (λ s. stepped s (levels host.engine.pins.sck x false)) client) host_level
      ∙ sym (ap (λ (o : Outcome). o.after)
      (pin_is client host.engine.pins.sck (level_read (sdo_of host)) false l.client_on pin))

  pub running_shown : {seen : Module} → seen ≡ client_sees host client → Running host seen
  running_shown e =
      subst (λ (m : Module). Running host m) (shown ∙ sym e)
      record {
        matched = l;
        selected = stepped_select client.settings false host.engine.pins.sck (open_level host) client.engine;
      }

pub ends : (host client : Module) {left : ℕ} {z : Run} → left ≡ 0 → z ≡ run_stops host client → z ≡ host_turn left host client
unfolding host_turn
ends host client e h = rw e h

-- With an edge left the host ticks, and the rest goes on with one edge fewer.
goes : (host client : Module) {z : Run} (left : ℕ) → (left ≡ 0 → ⊥) → (o : Outcome) → host_ticked host client ≡ o →
    z ≡ handed_over (host_turn (left - 1)) o client → z ≡ host_turn left host client
unfolding host_turn
goes host client zero some o e h = absurd (some refl)
goes host client (suc left) some o e h =
    by_case (λ (x : Outcome). handed_over (host_turn left) x client) e (simp unary_clauses at h)

module _ (host client : Module) {left : ℕ} {z : Run} (some : left ≡ 0 → ⊥) where
  pub stops : Matched host.settings client.settings → is_free host.engine.shift ≡ true → z ≡ run_stops host client →
      z ≡ host_turn left host client
  unfolding host_ticked handed_over made_edge when◌then◌else◌
  stops l free h =
      goes host client left some (record { answer = NoEdge; after = host })
      (tick_stands host _ false l.host_on l.own (and_both (clock_stops host.settings) _ (ap not l.unframed) free))
      h

  pub hands_over : {to : Module} → Running host client → is_free host.engine.shift ≡ false →
      to ≡ on (λ s. turned s (open_level client)) host → z ≡ client_turn (host_turn (left - 1)) to client →
      z ≡ host_turn left host client
  unfolding host_ticked perform_of answering handed_over made_edge when◌then◌else◌
  hands_over {to} w busy e h =
      let l : Matched host.settings client.settings = w.matched in
      let s : Settings = host.settings in
      let sdi : Bool = level_read (sdo_of client) in
      goes host client left some (record { answer = Edge; after = to })
      (tick_is host sdi false l.host_on l.own (and-false (clock_stops s) _ busy)
      ∙ ap (λ (x : Engine). record { answer = Edge; after = record { settings = s; engine = x } })
      (ap (λ (ss : Bool). stepped s (levels (not host.engine.pins.sck) sdi ss) host.engine)
      (told_elsewhere host false (unframed_told s l.unframed))
      ∙ sym (ap (λ (x : Bool). turned s x host.engine) (client-level host client l w.selected) ∙ own_turn s sdi host.engine l.own))
      ∙ ap (λ (m : Module). record { answer = Edge; after = m }) (sym e))
      h

-- A word at both ends, and the run from there on.
pub word_first : (host client : Module) → Running host client → at_beginning host client ≡ true → {left edges : ℕ} {after seen : Module} {z : Run} →
    edges ≡ word_edges host.settings → edges ≤ left → after ≡ (word_of host false (heard_of client)).after → seen ≡ (word_of client false (heard_of host)).after →
    z ≡ host_turn (left - edges) after seen → further edges z ≡ host_turn left host client
unfolding word_then_turns
word_first host client run start {left} {edges} {after} {seen} {z} is enough made taken rest =
    ap (further edges) (rest ∙ ap₂ (host_turn (left - edges)) made taken)
    ∙ ap (λ (k : ℕ). further k (host_turn (left - k) (word_of host false (heard_of client)).after (word_of client false (heard_of host)).after)) is
    ∙ sym (word_at_once host client run start left (omega (arith, is, enough)))
