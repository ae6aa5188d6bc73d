-- The module by its words: an engine as a port of the law.
--     port_of, port_at      an engine's port, and its port with another word under way
--     port_is             a port, part by part
--     sampled_is          how many edges are sampled, in either way of counting
--     whole_terms         words pass whole under the module's terms
--     begun_port          beginning a word is the law's operation
--     advanced_port       and so is an edge of what is under way
-- Assumes nothing.
use Rattle.std.specs.Prelude.{◌+◌, ◌*◌, ◌-◌, ◌^◌, ◌≤◌, ◌<◌, ◌&&◌, ◌||◌, ◌∷◌, ◌++◌, ◌≡◌}
use Rattle.laws.proofs.Common.{ℕ, zero, suc, Bool, true, false, not, List, []}
use Rattle.laws.proofs.Common.{append-nil, refl, sym, ap, ap₂, ◌∙◌, arith, eqb-true, eqb-false, not-true}
use Rattle.laws.proofs.Common.{not-false, ltb, leb, drop, when◌then◌else◌, if_keeps, if_both, if_true, if_false, clash, by_test}
use Rattle.laws.proofs.Common.{and_left, and_right, and_rest}
use mathlib.Core.Bool.{and_comm}
use native.Mathlib.Numerals.{add-one}
use mir.Val.{bool_byte}
use lib.Pow.{pow_mono}
use Rattle.word_order.specs.Bits.{bit_of, sampled_in}
use Rattle.word_order.specs.Ledger.{begins}
use Rattle.word_order.specs.Port.{Under, Way, idle, sends, Port, loses_at, first_way, played, Shows, ShowsOn, Whole, with_way}
use Rattle.module_rules.proofs.Types.{Settings, Engine, Receive, Progress, Shift, Free, Loaded, Begun}
use Rattle.module_rules.specs.Settings.{width_of, depth_of, framed, cke_of, silent, ssen_client}
use Rattle.module_rules.specs.Buffers.{empty, first_waiting, waiting, unread}
use Rattle.module_rules.specs.Bits.{samples, shifted_in, received_after, progressed}
use Rattle.module_rules.specs.Finish.{is_lost, finished}
use Rattle.module_rules.specs.Edge.{begun, shifted, advanced, advanced_if_begun, clocked, word_edges}
use Rattle.module_rules.specs.Words.{unfinished}
use Rattle.module_rules.specs.Invariant.{sampled, ShiftHolds}
use Rattle.module_rules.specs.Watch.{terms, way_of, port_in}
use Rattle.module_rules.proofs.Sizes.{width_least, width_most, depth_least, depth_most}
use Rattle.module_rules.proofs.BuffersOrder.{unread_length, left_takes_first, none_waiting}
use Rattle.module_invariant.proofs.Parts.{BuffersHold, EdgeHolds}
use Rattle.module_invariant.proofs.Sampling.{sampled_more, sampled_same, sampled_none, sampled_all, sampled_most}
use Rattle.module_invariant.proofs.Edge.{last_edge_lem, last_idle, last_fits, clocked_buffers}
use Rattle.module_invariant.proofs.Losses.{lost_is, delivered_marked}
use Rattle.module_invariant.proofs.FinishWords.{delivered_unread, sent_leaves, finished_way, finished_order, finished_spares}
use Rattle.word_order.specs.Port as port
use Rattle.word_order.proofs.WordBits as law

abbrev pub port_of : Settings → Engine → Port
port_of s n = port_in (record { settings = s; engine = n })

-- In the middle of an edge: what is under way is `sh`, whatever the shift register says yet.
abbrev pub port_at : Settings → Engine → Shift → Port
port_at s n sh =
    record {
      owed = unfinished s sh ++ waiting (depth_of s) n.transmit;
      way = way_of sh;
      unread = unread (depth_of s) n.receive;
      marked = n.receive.marked;
    }

-- A port, part by part.
pub port_is : {owed owed' unread unread' : List ℕ} {way way' : Way} {marked marked' : Bool} → owed ≡ owed' → way ≡ way' →
    unread ≡ unread' → marked ≡ marked' →
    ◌≡◌ {A = Port} (record { owed = owed; way = way; unread = unread; marked = marked })
    (record { owed = owed'; way = way'; unread = unread'; marked = marked' })
port_is a b c d = λ i. record { owed = a i; way = b i; unread = c i; marked = d i }

-- How many edges are sampled, in either way of counting.
pub sampled_is : (cke : Bool) (k : ℕ) → sampled_in (samples cke) k ≡ sampled cke k
sampled_is cke zero = sym (sampled_none cke)
sampled_is cke (suc k) =
    let ih : sampled_in (samples cke) k ≡ sampled cke k = sampled_is cke k in
    sym (ap (sampled_in (samples cke)) (add-one k))
    ∙ by_test (samples cke (k + 1))
    (λ e. law.sampled_more (samples cke) k e ∙ ap suc ih ∙ sym (sampled_more cke k e))
    (λ e. law.sampled_same (samples cke) k e ∙ ih ∙ sym (sampled_same cke k e))
    ∙ ap (sampled cke) (add-one k)

-- Words pass whole.
pub whole_terms : (s : Settings) → Whole (terms s)
whole_terms s =
    record {
      all = sampled_is (cke_of s) (2 * width_of s) ∙ sampled_all (cke_of s) (2 * width_of s) (width_of s) refl;
      some = omega (arith, width_least s);
      deep = depth_least s;
    }

-- A silent module is no SSEN client.
pub silent_not_client : (s : Settings) → silent s ≡ true → ssen_client s ≡ false
unfolding when◌then◌else◌
silent_not_client s = go (framed s) s.con2.spifsd s.con1.msten s.con1.ssen
  where
    go : (f fsd msten ssen : Bool) → (when f then not fsd else msten) ≡ true → (not msten && (not f && ssen)) ≡ false
    go true fsd true ssen e = refl
    go true fsd false ssen e = refl
    go false fsd true ssen e = refl
    go false fsd false ssen e = clash false e refl

-- Beginning a word is the law's operation: what begins is the first of the words owed, else a filler or nothing.
module _ (s : Settings) (n : Engine) (b : BuffersHold s n) where
  abbrev words : List ℕ
  words = waiting (depth_of s) n.transmit

  first-waits : empty n.transmit.count ≡ false → first_way (silent s) words ≡ sends (port.fresh_word false (first_waiting n.transmit))
  first-waits some =
      let there : n.transmit.count ≡ 0 → ⊥ = eqb-false n.transmit.count 0 some in
      ap (first_way (silent s))
      (left_takes_first (depth_of s) n.transmit (depth_most s) b.transmit.cells b.transmit.ring (omega arith))

  pub begun_port : (was : Shift) → ShiftHolds s n was → played (terms s) begins (port_at s n was) ≡ port_at s n (begun s n was)
  unfolding begun
  begun_port Free k =
      let none : n.transmit.count ≡ 0 → words ≡ [] = none_waiting (depth_of s) n.transmit in
      if_keeps (λ (x : Shift). played (terms s) begins (port_at s n Free) ≡ port_at s n x) (silent s) _ _
      (λ quiet.
      port_is refl
      (ap (first_way (silent s)) (none (k.0 (silent_not_client s quiet))) ∙ if_true (silent s) _ _ quiet)
      refl refl)
      (λ fills.
      if_keeps (λ (x : Shift). played (terms s) begins (port_at s n Free) ≡ port_at s n x) (ssen_client s && not (empty n.transmit.count)) _ _
      (λ c.
      port_is
      (ap (λ (q : List ℕ). q ++ words) (sym (if_true (ssen_client s) _ _ (and_left (ssen_client s) _ c))))
      (first-waits (not-true (empty n.transmit.count) (and_right (ssen_client s) _ c)))
      refl refl)
      (λ c.
      let empties : n.transmit.count ≡ 0 =
      by_test (ssen_client s)
      (λ client. eqb-true n.transmit.count 0 (not-false (empty n.transmit.count) (and_rest (ssen_client s) _ c client)))
      (λ other. k.0 other) in
      port_is (ap (λ (q : List ℕ). q ++ words) (sym (if_true true _ _ refl)))
      (ap (first_way (silent s)) (none empties) ∙ if_false (silent s) _ _ fills)
      refl refl))
  begun_port (Loaded word) k =
      port_is (ap (λ (q : List ℕ). q ++ words) (sym (if_false (ssen_client s) _ _ k.0))) refl refl refl
  begun_port (Begun p) k = refl

-- A bit comes in: nothing is lost above 16 bits.
shifted_whole : (k received : ℕ) (sdi : Bool) → k < 16 → received < 2 ^ k → shifted_in received sdi ≡ received * 2 + bool_byte sdi
unfolding shifted_in
shifted_whole k received sdi most h =
    let bit : bool_byte sdi ≤ 1 = law.bit_most sdi in
    let fewer : k ≤ 15 = omega arith in
    let small : 2 ^ k ≤ 2 ^ 15 = pow_mono fewer in
    omega arith

-- What is owed once the first word is gone, and what is unread once a word has come in.
owed_rest : (filler : Bool) (word : ℕ) (rest owed : List ℕ) → owed ≡ (when filler then [] else word ∷ []) ++ rest →
    rest ≡ (when filler then owed else drop 1 owed)
unfolding when◌then◌else◌
owed_rest true word rest owed e = sym e
owed_rest false word rest owed e = ap (drop 1) (sym e)

landed_as : (lost : Bool) (word : ℕ) (unread : List ℕ) →
    unread ++ (when lost then [] else word ∷ []) ≡ (when lost then unread else unread ++ (word ∷ []))
unfolding when◌then◌else◌
landed_as true word unread = append-nil unread
landed_as false word unread = refl

-- A word is lost in the module exactly if it is at the port.
pub loses_same : (s : Settings) (n : Engine) (sh : Shift) → loses_at (terms s) (port_at s n sh) ≡ is_lost s n
unfolding loses_at
loses_same s n sh =
    ap (λ (k : ℕ). leb (depth_of s) k || n.receive.marked) (unread_length (depth_of s) n.receive) ∙ sym (lost_is s n)

-- An edge of a word under way.
module _ (s : Settings) (n : Engine) (p : Progress) (h : EdgeHolds s n p) (b : BuffersHold s n) (sdi : Bool) where
  abbrev under : Under
  under = record { filler = p.filler; word = p.word; edges = p.edges; received = p.received }

  abbrev received : ℕ
  received = received_after s (p.edges + 1) sdi p.received

  received_same : received ≡ port.received_after (terms s) sdi under
  unfolding received_after port.received_after
  received_same =
      if_both (λ (x y : ℕ). x ≡ y) (samples (cke_of s) (p.edges + 1)) _ _ _ _ _ refl
      (λ e.
      let more : sampled (cke_of s) (p.edges + 1) ≡ suc (sampled (cke_of s) p.edges) = sampled_more (cke_of s) p.edges e in
      let most : sampled (cke_of s) (p.edges + 1) ≤ width_of s =
      sampled_most (cke_of s) (p.edges + 1) (width_of s) (omega (arith, h.short)) in
      shifted_whole (sampled (cke_of s) p.edges) p.received sdi (omega (arith, width_most s)) h.received)
      (λ e. refl)

  progressed-same : way_of (Begun (progressed s sdi p)) ≡ sends (port.progressed (terms s) sdi under)
  unfolding progressed port.progressed
  progressed-same =
      ap (λ (r : ℕ). sends (record { filler = p.filler; word = p.word; edges = p.edges + 1; received = r })) received_same

  finished-port : p.edges + 1 ≡ 2 * width_of s →
      port_of s (finished s p.filler received n) ≡ port.finished (terms s) (port.progressed (terms s) sdi under) (port_at s n (Begun p))
  unfolding port.finished port.progressed
  finished-port last =
      let spared = finished_spares s p.filler received n in
      let lost : loses_at (terms s) (port_at s n (Begun p)) ≡ is_lost s n = loses_same s n (Begun p) in
      port_is
      (sym
      (finished_order s p.filler received n (last_fits s sdi p n h last)
      (record { buffers = b; idle = λ own. last_idle s sdi p n h last }))
      ∙ owed_rest p.filler p.word _ _ (sent_leaves s n received p b.transmit h.sent))
      (finished_way s p.filler received n)
      (ap (unread (depth_of s)) spared.receive
      ∙ delivered_unread s n received b
      ∙ landed_as (is_lost s n) received (unread (depth_of s) n.receive)
      ∙ ap₂ (λ (x : Bool) (v : ℕ). when x then unread (depth_of s) n.receive else unread (depth_of s) n.receive ++ (v ∷ []))
      (sym lost) received_same)
      (ap (λ (r : Receive). r.marked) spared.receive
      ∙ delivered_marked s n received
      ∙ ap (λ (q : Bool). n.receive.marked || q)
      (and_comm (is_lost s n) s.con2.spiben ∙ ap (λ (q : Bool). s.con2.spiben && q) (sym lost)))

  word-port : port_of s (advanced s sdi p n) ≡ port.advanced (terms s) sdi (sends under) (port_at s n (Begun p))
  unfolding advanced port.advanced shifted progressed
  word-port =
      if_both (λ (x : Engine) (q : Port). port_of s x ≡ q) (ltb (p.edges + 1) (word_edges s)) (ltb (p.edges + 1) (word_edges s)) (shifted s sdi p n)
      (finished s p.filler received n)
      (with_way (sends (port.progressed (terms s) sdi under)) (port_at s n (Begun p)))
      (port.finished (terms s) (port.progressed (terms s) sdi under) (port_at s n (Begun p)))
      refl
      (λ e. port_is refl progressed-same refl refl)
      (λ e. finished-port (last_edge_lem s sdi p n h e))

  -- SDO at the edge.
  word-shows : Shows (terms s) n.pins.sdo under
  word-shows =
      record {
        shows = λ e.
            h.shows e ∙ ap (λ (k : ℕ). bit_of p.word (width_of s - 1 - k)) (sym (sampled_is (cke_of s) p.edges));
      }

-- What is under way at an edge to a level: a begun word that can be given it, or what the shift register has.
abbrev pub Given : Settings → Engine → Bool → Shift → Type 0
Given s n sck Free = n.shift ≡ Free
Given s n sck (Loaded word) = n.shift ≡ Loaded word
Given s n sck (Begun p) = EdgeHolds s (clocked sck n) p

-- The edge.
module _ (s : Settings) (n : Engine) (b : BuffersHold s n) (sck sdi : Bool) where
  pub advanced_port : (sh : Shift) → Given s n sck sh →
      port_of s (advanced_if_begun s sdi sh (clocked sck n)) ≡ port.advanced (terms s) sdi (way_of sh) (port_at s n sh)
  unfolding advanced_if_begun clocked port.advanced
  advanced_port Free e = ap (port_at s n) e
  advanced_port (Loaded word) e = ap (port_at s n) e
  advanced_port (Begun p) k = word-port s (clocked sck n) p k (clocked_buffers s sck n b) sdi

  pub edge_shows : (sh : Shift) → Given s n sck sh → ShowsOn (terms s) n.pins.sdo (way_of sh)
  unfolding clocked
  edge_shows Free e = tt
  edge_shows (Loaded word) e = tt
  edge_shows (Begun p) k = word-shows s (clocked sck n) p k (clocked_buffers s sck n b) sdi
