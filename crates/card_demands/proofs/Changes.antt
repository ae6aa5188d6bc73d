-- Every view after every call.
--     changed        the changes of one call, by its views
--     still          a call that leaves the card as it was
--     call_changes_lem   one call
--     card_changes   every life from power-up
-- Assumes nothing.
use Rattle.std.specs.Prelude.{◌&&◌, ◌||◌, ◌∷◌, ◌≡◌}
use Rattle.laws.proofs.Common.{ℕ, Bool, true, false, not, Bool·beq, or-false, List, [], refl, sym, ap}
use Rattle.laws.proofs.Common.{◌∙◌, arith, le-ltb, not-true, ltb, eqb, length, when◌then◌else◌, if_keeps, clash}
use Rattle.word_order.specs.Ledger.{Ledger, lost_of, opened}
use Rattle.word_order.specs.Machine.{Watched, watched_call, entered, notes}
use Rattle.word_order.proofs.Counts.{flag_grows}
use Rattle.card_rules.specs.Settings.{named, Settings, Shape, shape_of}
use Rattle.card_rules.specs.Card.{Engine, emptied}
use Rattle.card_rules.specs.Edge.{at_first_place, is_full, turned, edged}
use Rattle.card_rules.specs.Calls.{Call, set_protocol, set_length, enable, disable, write, read, edge, clear_underrun, clear_overflow, Outcome, set_protocol_of, set_length_of, enable_of, disable_of, sample_of, write_of, read_from, read_of, edge_of, clear_underrun_of, clear_overflow_of, perform_of, said_of}
use Rattle.card_rules.specs.Figures.{protocol_number, starts_channel, card_terms}
use Rattle.card_rules.specs.Watch.{Sight, entry_of, edge_ops, port_of, watching, life}
use Rattle.card_rules.specs.CardDemands.{asks, is_kind, was_done, takes, waiting_expected, Changes, took}
use Rattle.card_order.specs.Invariant.{terms_of}
use Rattle.card_order.proofs.EdgeWords.{edge_step}
use Rattle.card_order.proofs.FiguresHold.{named_fits, terms_same, frame_is}
use Rattle.card_order.proofs.Order.{card_tied, whole}
use Rattle.card_placing.proofs.Stages.{first_idle}
use Rattle.card_placing.proofs.Life.{On, life_on}
use Rattle.card_demands.proofs.Flags.{EdgeFlags, edge_flags, edged_overflow}

abbrev at : Bool → Settings → Engine → ℕ → Ledger → Watched watching
at on x n count l = record { now = record { enabled = on; settings = x; engine = n }; memory = count; ledger = l }

-- What the call before left: a disabled card holds nothing.
abbrev Rests : Bool → Engine → Type 0
Rests on n = on ≡ false → n ≡ emptied n.pins n.flags

-- A flag that nothing sets: no sample was lost.
lost_none : (b : Bool) (k : ℕ) → b ≡ (b || ltb k k)
lost_none b k = rw (le-ltb k k (omega arith)) (sym (or-false b))

same_level : (b : Bool) → Bool·beq b b ≡ true
same_level true = refl
same_level false = refl

-- A call's changes, by its views; a card that is then disabled holds nothing, and its pins keep their levels.
changed : {a b : Watched watching} {c : Call} {said : ℕ} → b.now.enabled ≡ (is_kind 2 c || (a.now.enabled && not (is_kind 3 c))) →
    protocol_number b.now.settings.protocol
    ≡ (when was_done a b c said 0 then (asks c).first else protocol_number a.now.settings.protocol) →
    b.now.settings.bits ≡ (when was_done a b c said 1 then (asks c).first else a.now.settings.bits) →
    b.now.settings.frame ≡ (when was_done a b c said 1 then (asks c).second else a.now.settings.frame) →
    b.now.engine.flags.underrun
    ≡ (not (is_kind 7 c) && (a.now.engine.flags.underrun || (takes a b c said && eqb (length a.now.engine.waiting) 0))) →
    b.now.engine.flags.overflow
    ≡ (not (is_kind 8 c) && (a.now.engine.flags.overflow || ltb (lost_of a.ledger) (lost_of b.ledger))) →
    b.now.engine.waiting ≡ waiting_expected a b c said →
    (not b.now.enabled ≡ true → (b.now.engine.unread ≡ []) × (b.now.engine.pins ≡ a.now.engine.pins)) → Changes a b c said
changed enabled protocol bits frame underrun overflow waiting rest =
    record {
      enabled = enabled;
      protocol = protocol;
      bits = bits;
      frame = frame;
      underrun = underrun;
      overflow = overflow;
      waiting = waiting;
      unread = λ off. (rest off).0;
      sck = λ off i. ((rest off).1 i).sck;
      lrck = λ off i. ((rest off).1 i).lrck;
      level = λ off i. ((rest off).1 i).sdo;
    }

-- A call that leaves the card as it was.
still : (on : Bool) (x : Settings) (n : Engine) (count : ℕ) (l : Ledger) (c : Call) (said : ℕ) → Rests on n →
    on ≡ (is_kind 2 c || (on && not (is_kind 3 c))) → (is_kind 0 c && eqb said 0) ≡ false → (is_kind 1 c && eqb said 0) ≡ false →
    (is_kind 4 c && eqb said 0) ≡ false → (is_kind 6 c && eqb said 0) ≡ false → is_kind 7 c ≡ false → is_kind 8 c ≡ false →
    Changes (at on x n count l) (at on x n count l) c said
unfolding when◌then◌else◌
still on x n count l c said rests up no0 no1 no4 no6 no7 no8 =
    changed up (rw no0) (rw no1) (rw no1) (rw (no7, no6) (sym (or-false n.flags.underrun)))
    (rw no8 (lost_none n.flags.overflow (lost_of l))) (rw (no4, no6, same_level on))
    (λ off. (λ i. (rests (not-true on off) i).unread, refl))

-- What is known of the edges of an enabled card: where a channel starts, what they do to the flags, and what they lose.
record EdgesAre (x : Settings) (n : Engine) (count : ℕ) (l : Ledger) : Type 0 where
  pub starts : at_first_place (shape_of x) n.place ≡ starts_channel x count
  pub edges : (sdi : Bool) → EdgeFlags (shape_of x) sdi n
  pub loses : (sdi : Bool) →
      (edged (shape_of x) sdi n).flags.overflow
      ≡ (n.flags.overflow
      || ltb (lost_of l) (lost_of (entered (card_terms x) (notes (edge_ops (starts_channel x count) n.pins.sdo sdi)) l)))

module _ (x : Settings) (n : Engine) (count : ℕ) (l : Ledger) where
  abbrev y : Bool → Call → Watched watching
  y on c = watched_call watching (at on x n count l) c

  abbrev said : Bool → Call → ℕ
  said on c = (said_of (perform_of (record { enabled = on; settings = x; engine = n }) c).answer).number

  abbrev sight_with : Outcome → Sight
  sight_with o = record { enabled = true; settings = x; sdo = n.pins.sdo; answer = o.answer }

  -- The flags stay.
  same-underrun : n.flags.underrun ≡ (n.flags.underrun || false)
  same-underrun = sym (or-false n.flags.underrun)

  same-overflow : n.flags.overflow ≡ (n.flags.overflow || ltb (lost_of l) (lost_of l))
  same-overflow = lost_none n.flags.overflow (lost_of l)

  -- A call on a disabled card.
  off-changes : Rests false n → (c : Call) → Changes (at false x n count l) (y false c) c (said false c)
  unfolding when◌then◌else◌ set_protocol_of set_length_of enable_of disable_of write_of read_of edge_of clear_underrun_of clear_overflow_of opened
  off-changes rests (set_protocol p) =
      changed refl refl refl refl same-underrun same-overflow refl (λ off. (λ i. (rests refl i).unread, refl))
  off-changes rests (set_length bits frame) =
      if_keeps
      (λ (o : Outcome).
      Changes (at false x n count l) (record { now = o.after; memory = count; ledger = l }) (set_length bits frame)
      (said_of o.answer).number)
      (named bits frame) _ _
      (λ e. changed refl refl refl refl same-underrun same-overflow refl (λ off. (λ i. (rests refl i).unread, refl)))
      (λ e. still false x n count l (set_length bits frame) 23 rests refl refl refl refl refl refl refl)
  off-changes rests enable =
      changed refl refl refl refl same-underrun (rw (le-ltb (lost_of l) 0 (omega arith)) (sym (or-false n.flags.overflow))) refl
      (λ off. clash false off refl)
  off-changes rests disable = still false x n count l disable 0 rests refl refl refl refl refl refl refl
  off-changes rests (write v) = still false x n count l (write v) 2 rests refl refl refl refl refl refl refl
  off-changes rests read = still false x n count l read 2 rests refl refl refl refl refl refl refl
  off-changes rests (edge sdi) = still false x n count l (edge sdi) 2 rests refl refl refl refl refl refl refl
  off-changes rests clear_underrun = changed refl refl refl refl refl same-overflow refl (λ off. (λ i. (rests refl i).unread, refl))
  off-changes rests clear_overflow = changed refl refl refl refl same-underrun refl refl (λ off. (λ i. (rests refl i).unread, refl))

  -- A call on an enabled card.
  on-changes : EdgesAre x n count l → (c : Call) → Changes (at true x n count l) (y true c) c (said true c)
  unfolding when◌then◌else◌ set_protocol_of set_length_of enable_of disable_of write_of sample_of read_of edge_of clear_underrun_of clear_overflow_of turned
  on-changes h (set_protocol p) = still true x n count l (set_protocol p) 3 (λ e. clash true refl e) refl refl refl refl refl refl refl
  on-changes h (set_length bits frame) =
      still true x n count l (set_length bits frame) 3 (λ e. clash true refl e) refl refl refl refl refl refl refl
  on-changes h enable = still true x n count l enable 0 (λ e. clash true refl e) refl refl refl refl refl refl refl
  on-changes h disable = changed refl refl refl refl same-underrun same-overflow refl (λ off. (refl, refl))
  on-changes h (write v) =
      if_keeps
      (λ (o : Outcome).
      Changes (at true x n count l)
      (record { now = o.after; memory = count; ledger = entered (card_terms x) (entry_of count (sight_with o) (write v)) l }) (write v)
      (said_of o.answer).number)
      (is_full n.waiting) _ _
      (λ e. still true x n count l (write v) 5 (λ f. clash true refl f) refl refl refl refl refl refl refl)
      (λ e. changed refl refl refl refl same-underrun same-overflow refl (λ off. clash false off refl))
  on-changes h read = go n.unread
    where
      go : (r : List ℕ) →
          let o : Outcome = read_from (record { enabled = true; settings = x; engine = n }) r in
          Changes (at true x n count l)
          (record { now = o.after; memory = count; ledger = entered (card_terms x) (entry_of count (sight_with o) read) l }) read
          (said_of o.answer).number
      go [] = still true x n count l read 6 (λ f. clash true refl f) refl refl refl refl refl refl refl
      go (sample ∷ rest) = changed refl refl refl refl same-underrun same-overflow refl (λ off. clash false off refl)
  on-changes h (edge sdi) =
      changed refl refl refl refl (rw (← h.starts) (h.edges sdi).underrun) (h.loses sdi) (rw (← h.starts) (h.edges sdi).waiting)
      (λ off. clash false off refl)
  on-changes h clear_underrun = changed refl refl refl refl refl same-overflow refl (λ off. clash false off refl)
  on-changes h clear_overflow = changed refl refl refl refl same-underrun refl refl (λ off. clash false off refl)

-- A call, whichever.
call_changes_lem : (on : Bool) (x : Settings) (n : Engine) (count : ℕ) (l : Ledger) → Rests on n → (on ≡ true → EdgesAre x n count l) → (c : Call) →
    Changes (at on x n count l) (watched_call watching (at on x n count l) c) c
    (said_of (perform_of (record { enabled = on; settings = x; engine = n }) c).answer).number
call_changes_lem true x n count l rests h c = on-changes x n count l (h refl) c
call_changes_lem false x n count l rests h c = off-changes x n count l rests c

-- Every life.
module _ (cs : List Call) where
  abbrev x : Watched watching
  x = life cs

  abbrev s : Shape
  s = shape_of x.now.settings

  loses : x.now.enabled ≡ true → (sdi : Bool) →
      (edged s sdi x.now.engine).flags.overflow
      ≡ (x.now.engine.flags.overflow
      || ltb (lost_of x.ledger)
      (lost_of
      (entered (card_terms x.now.settings)
      (notes (edge_ops (starts_channel x.now.settings x.memory) x.now.engine.pins.sdo sdi)) x.ledger)))
  loses on sdi =
      let h = card_tied cs in
      let n : Engine = x.now.engine in
      let first : Bool = starts_channel x.now.settings x.memory in
      let same : first ≡ at_first_place s n.place =
      (frame_is x.now.settings h.0.names x.memory).starts ∙ ap (at_first_place s) (sym (h.1 on).recalls) in
      let g = edge_step s (named_fits x.now.settings h.0.names) sdi n first same h.0.shows h.0.within in
      rw (terms_same x.now.settings)
      (flag_grows (terms_of s) (whole x.now h.0) (edge_ops first n.pins.sdo sdi) (port_of n) x.ledger
      (rw (terms_same x.now.settings) at (h.1 on).words)
      g.legal n.flags.overflow (edged s sdi n).flags.overflow
      (edged_overflow s sdi n first same))

  edges_are : x.now.enabled ≡ true → EdgesAre x.now.settings x.now.engine x.memory x.ledger
  edges_are on =
      let h = card_tied cs in
      let n : Engine = x.now.engine in
      let o : On x.now.settings n x.memory (took cs) = life_on cs on in
      record {
        starts = ap (at_first_place s) (h.1 on).recalls ∙ sym (frame_is x.now.settings h.0.names x.memory).starts;
        edges = λ sdi.
            edge_flags s sdi n
            (first_idle s (named_fits x.now.settings h.0.names) x.memory n.place n.way n.pins.sdo (took cs) o.stage);
        loses = loses on;
      }

pub card_changes : (cs : List Call) (c : Call) →
    Changes (life cs) (watched_call watching (life cs) c) c (said_of (perform_of (life cs).now c).answer).number
card_changes cs c =
    let x : Watched watching = life cs in
    call_changes_lem x.now.enabled x.now.settings x.now.engine x.memory x.ledger (card_tied cs).0.rests (edges_are cs) c
