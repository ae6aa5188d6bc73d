-- An edge of a card in memory, by the numbers that it finds and writes: each law is one way through a function.
-- Assumes nothing.
use Rattle.std.specs.Prelude.{◌+◌, ◌*◌, ◌-◌, ◌/◌, ◌%◌, ◌^◌, ◌≤◌, ◌<◌, ◌&&◌, ◌||◌, ◌∷◌, ◌++◌, ◌≡◌, ◌⊎◌}
use Rattle.std.proofs.Common.{inl, inr}
use Rattle.laws.proofs.Common.{ℕ, Bool, true, false, not, Bool·beq, List}
use Rattle.laws.proofs.Common.{[], refl, sym, ap, subst, ◌∙◌, mod-eq_of_lt, arith, eqb-true, eqb-false, eq-eqb, ne_eqb}
use Rattle.laws.proofs.Common.{lt-ltb, le-ltb, ltb-true, ltb-false, le-leb, lt-leb, eqb, ltb, length, set}
use Rattle.laws.proofs.Common.{when◌then◌else◌, if_keeps, if_true, if_false, and_first, and-false, by_test}
use Rattle.ring.specs.Ring.{next}
use Rattle.word_order.specs.Bits.{bit_of}
use Rattle.word_order.specs.Port.{Under, Way, idle, sends}
use Rattle.card_rules.specs.Settings.{Protocol, i2s, left_justified, right_justified, pcm, Shape, shape_for, shape_of}
use Rattle.card_rules.specs.Card.{Engine, with_waiting, with_way, with_unread, with_overflow, with_sdo}
use Rattle.card_rules.specs.Edge.{at_first_place, fresh, taken, begun_from, begun, samples, last_edge, shifted_in, received_after, channel_bit, shifted, is_full, finished, opened, clocked_as, clocked, lrck_at, turned}
use Rattle.card_rules.specs.Calls.{refused, done, is_disabled, edge_of}
use Rattle.card.specs.declared.Frame.{Frame}
use Rattle.card.specs.Memory.{bit_in, byte_in, bits_in, frame_in, settings_from, samples_at, engine_in, Head, head_in, place_in, shape_in, card_in, framed, Moves}
use Rattle.laws.specs.Writes.{at}
use Rattle.card.specs.Answered.{Gives}
use Rattle.card.proofs.Frames.{Fit, sizes}
use Rattle.card.proofs.Stored.{wrote, alike, stays, both, moved_card, bit_on, bit_off, gives_so, gives_not}
use Rattle.card.proofs.CallsHold.{refusing, done_with}
use Rattle.card_edge.specs.Shown.{shown_bit}

-- A sample begins, or zeros do.
sending : (w : List ℕ) → length w ≡ 40 → (zeros word : ℕ) →
    Moves (λ s. with_way (fresh (bit_in zeros) word)) w (set (set (set (set (set w 3 1) 6 0) 7 0) 4 zeros) 5 word)
unfolding when◌then◌else◌ bit_in byte_in samples_at
sending w n zeros word = wrote w (at 3 1 ∷ at 6 0 ∷ at 7 0 ∷ at 4 zeros ∷ at 5 word ∷ []) n refl refl refl

zeros_sending : (w : List ℕ) → length w ≡ 40 →
    Moves (λ s e. taken [] e) w (set (set (set (set (set (set w 3 1) 6 0) 7 0) 4 1) 5 0) 11 1)
unfolding when◌then◌else◌ bit_in byte_in samples_at
zeros_sending w n = wrote w (at 3 1 ∷ at 6 0 ∷ at 7 0 ∷ at 4 1 ∷ at 5 0 ∷ at 11 1 ∷ []) n refl refl refl

pub take_none : (w : List ℕ) {later : List ℕ} → length later ≡ 40 → (engine_in w).waiting ≡ [] → later ≡ w →
    Moves (λ s e. taken e.waiting e) w (set (set (set (set (set (set later 3 1) 6 0) 7 0) 4 1) 5 0) 11 1)
take_none w {later = later} n none same =
    subst (λ (v : List ℕ). Moves (λ s e. taken e.waiting e) v (set (set (set (set (set (set later 3 1) 6 0) 7 0) 4 1) 5 0) 11 1)) same
    (alike (zeros_sending later n)
    (ap (λ (q : List ℕ). taken q (engine_in later)) (sym none ∙ ap (λ (v : List ℕ). (engine_in v).waiting) (sym same))))

pub take_first : (w : List ℕ) {sample : ℕ} {rest later : List ℕ} → length later ≡ 40 → (engine_in w).waiting ≡ sample ∷ rest →
    Moves (λ s. with_waiting rest) w later →
    Moves (λ s e. taken e.waiting e) w (set (set (set (set (set later 3 1) 6 0) 7 0) 4 0) 5 sample)
unfolding bit_in
take_first w {sample = sample} {later = later} n some m =
    alike (both m (sending later n 0 sample)) (ap (λ (q : List ℕ). taken q (engine_in w)) (sym some))

-- What is under way.
way_idle : (w : List ℕ) → place_in w 3 % 2 ≡ 0 → (engine_in w).way ≡ idle
unfolding engine_in
way_idle w e = if_false (bit_in (place_in w 3)) _ _ (bit_off (place_in w 3) e)

abbrev pub under_in : List ℕ → Under
under_in w = record { filler = bit_in (place_in w 4); word = place_in w 5; edges = byte_in (place_in w 6); received = place_in w 7 }

way_sends : (w : List ℕ) → (place_in w 3 % 2 ≡ 0 → ⊥) → (engine_in w).way ≡ sends (under_in w)
unfolding engine_in
way_sends w e = if_true (bit_in (place_in w 3)) _ _ (bit_on (place_in w 3) e)

-- A first place, by the frame.
module _ (w : List ℕ) (f : Frame) (is : f ≡ framed (shape_in w)) where
  first_same : (eqb (place_in w 2 % 256) f.first || eqb (place_in w 2 % 256) f.second) ≡ at_first_place (shape_in w) (engine_in w).place
  unfolding framed at_first_place engine_in byte_in
  first_same = λ i. eqb (place_in w 2 % 256) (is i).first || eqb (place_in w 2 % 256) (is i).second

  pub begin_taken : {later : List ℕ} →
      (place_in w 2 % 256 ≡ f.first) ⊎ ((place_in w 2 % 256 ≡ f.first → ⊥) × (place_in w 2 % 256 ≡ f.second)) →
      place_in w 3 % 2 ≡ 0 → Moves (λ s e. taken e.waiting e) w later → Moves begun w later
  unfolding begun
  begin_taken at_one none m =
      alike m
      (sym
      (if_true (at_first_place (shape_in w) (engine_in w).place) _ _ (sym first_same ∙ go at_one)
      ∙ (λ i. begun_from (way_idle w none i) (engine_in w))))
    where
      go : (place_in w 2 % 256 ≡ f.first) ⊎ ((place_in w 2 % 256 ≡ f.first → ⊥) × (place_in w 2 % 256 ≡ f.second)) →
          (eqb (place_in w 2 % 256) f.first || eqb (place_in w 2 % 256) f.second) ≡ true
      go (inl e) = rw (eq-eqb _ _ e)
      go (inr e) = rw (ne_eqb _ _ e.0, eq-eqb _ _ e.1)

  pub begin_under : (place_in w 3 % 2 ≡ 0 → ⊥) → Moves begun w w
  unfolding begun
  begin_under some =
      stays
      (sym
      (if_keeps (λ (x : Engine). x ≡ engine_in w) (at_first_place (shape_in w) (engine_in w).place) _ _
      (λ _ i. begun_from (way_sends w some i) (engine_in w)) (λ _. refl)))

  pub begin_away : (place_in w 2 % 256 ≡ f.first → ⊥) → (place_in w 2 % 256 ≡ f.second → ⊥) → Moves begun w w
  unfolding begun
  begin_away g h =
      let away : (eqb (place_in w 2 % 256) f.first || eqb (place_in w 2 % 256) f.second) ≡ false = rw (ne_eqb _ _ g, ne_eqb _ _ h) in
      stays (sym (if_false (at_first_place (shape_in w) (engine_in w).place) _ _ (sym first_same ∙ away)))

-- The finish.
module _ (w : List ℕ) {later : List ℕ} (n : length later ≡ 40) (received : ℕ) where
  dropped : Moves (λ s e. with_way idle (with_overflow true e)) later (set (set later 3 0) 12 1)
  unfolding when◌then◌else◌ bit_in samples_at
  dropped = wrote later (at 3 0 ∷ at 12 1 ∷ []) n refl refl refl

  freed : Moves (λ s. with_way idle) later (set later 3 0)
  unfolding when◌then◌else◌ bit_in samples_at
  freed = wrote later (at 3 0 ∷ []) n refl refl refl

  pub finish_full : is_full (engine_in w).unread ≡ true → later ≡ w → Moves (λ s. finished received) w (set (set later 3 0) 12 1)
  unfolding finished
  finish_full full same =
      subst (λ (v : List ℕ). Moves (λ s. finished received) v (set (set later 3 0) 12 1)) same
      (alike dropped
      (ap (with_way idle)
      (sym (if_true (is_full (engine_in later).unread) _ _ (ap (λ (v : List ℕ). is_full (engine_in v).unread) same ∙ full)))))

  pub finish_room : is_full (engine_in w).unread ≡ false → Moves (λ s e. with_unread (e.unread ++ (received ∷ [])) e) w later →
      Moves (λ s. finished received) w (set later 3 0)
  unfolding finished
  finish_room room m =
      alike (both m freed) (ap (with_way idle) (sym (if_false (is_full (engine_in w).unread) (with_overflow true (engine_in w)) _ room)))

-- The frame's numbers are small.
pub frame_small : (w : List ℕ) (f : Frame) → f ≡ framed (shape_in w) →
    (f.last ≤ 64) × (f.edges ≤ 128) × (f.lead + 2 * (shape_in w).bits ≡ f.last)
unfolding framed shape_of head_in settings_from
frame_small w f is = rw is (go (head_in w).settings.protocol (sizes (place_in w 1)))
  where
    go : (q : Protocol) → Fit (bits_in (place_in w 1)) (frame_in (place_in w 1)) →
        let s : Shape = shape_for q (bits_in (place_in w 1)) (frame_in (place_in w 1)) in
        (last_edge s ≤ 64) × (2 * s.frame ≤ 128) × (2 * s.lead + 2 * s.bits ≡ last_edge s)
    go i2s z = (omega (arith, z.most), omega (arith, z.short), omega arith)
    go left_justified z = (omega (arith, z.most), omega (arith, z.short), omega arith)
    go right_justified z = (omega (arith, z.short, z.fit), omega (arith, z.short), omega arith)
    go pcm z = (omega (arith, z.most), omega (arith, z.short), omega arith)

-- What a frame has of its shape.
record Numbers (s : Shape) (f : Frame) : Type 0 where
  pub lead : f.lead ≡ 2 * s.lead
  pub last : f.last ≡ last_edge s
  pub edges : f.edges ≡ 2 * s.frame
  pub active : f.active ≡ 2 * s.active
  pub rest : f.rest ≡ s.rest

numbers : {s : Shape} {f : Frame} → f ≡ framed s → Numbers s f
unfolding framed
numbers e =
    record { lead = λ i. (e i).lead; last = λ i. (e i).last; edges = λ i. (e i).edges; active = λ i. (e i).active; rest = λ i. (e i).rest }

-- A bit of a number is its own lowest.
pub bit_of_bit : (word i : ℕ) → bit_in (word / 2 ^ i % 2) ≡ bit_of word i
unfolding bit_in bit_of
bit_of_bit word i = ap (λ (k : ℕ). eqb k 1) (let same : word / 2 ^ i % 2 % 2 ≡ word / 2 ^ i % 2 = omega arith in same)

-- The bit that SDO shows.
pub shown_same : (w : List ℕ) (f : Frame) → f ≡ framed (shape_in w) → (word edges : ℕ) → edges % 2 ≡ 0 → edges + 1 < f.last →
    shown_bit f word edges ≡ channel_bit (shape_in w) word (edges / 2)
unfolding shown_bit channel_bit when◌then◌else◌
shown_same w f is word edges even short =
    let s : Shape = shape_in w in
    let g : Numbers s f = numbers is in
    by_test (ltb edges f.lead)
    (λ e. let early : edges < f.lead = ltb-true edges f.lead e in rw (e, lt-leb s.lead (edges / 2) (omega arith)))
    (λ e.
    let from : f.lead ≤ edges = ltb-false edges f.lead e in
    let index : (f.last - 2 - edges) / 2 ≡ s.bits - 1 - (edges / 2 - s.lead) = omega arith in
    rw (e, index, le-leb s.lead (edges / 2) (omega arith), lt-ltb (edges / 2) (s.lead + s.bits) (omega arith)))

-- An edge of an open clock.
module _ (w : List ℕ) (sdi : Bool) (none : place_in w 3 % 2 ≡ 0) where
  opens : clocked (shape_in w) sdi (engine_in w) ≡ opened (engine_in w)
  unfolding clocked
  opens = λ i. clocked_as (shape_in w) sdi (way_idle w none i) (engine_in w)

  parity : (engine_in w).place % 2 ≡ place_in w 2 % 2
  unfolding engine_in byte_in
  parity = omega arith

  low : length w ≡ 40 → Moves (λ s e. with_sdo false e) w (set w 10 0)
  unfolding when◌then◌else◌ bit_in samples_at
  low n = wrote w (at 10 0 ∷ []) n refl refl refl

  pub clock_open : length w ≡ 40 → place_in w 2 % 2 ≡ 0 → Moves (λ s. clocked s sdi) w (set w 10 0)
  unfolding opened
  clock_open n even =
      alike (low n)
      (cc (opens, if_true (eqb ((engine_in w).place % 2) 0) false (engine_in w).pins.sdo (eq-eqb _ 0 (parity ∙ even))))

  pub clock_held : (place_in w 2 % 2 ≡ 0 → ⊥) → Moves (λ s. clocked s sdi) w w
  unfolding opened
  clock_held odd =
      let off : eqb ((engine_in w).place % 2) 0 ≡ false = ne_eqb ((engine_in w).place % 2) 0 (λ e. odd (sym parity ∙ e)) in
      stays (sym (opens ∙ (λ i. with_sdo (if_false (eqb ((engine_in w).place % 2) 0) false (engine_in w).pins.sdo off i) (engine_in w))))

-- An edge of a sample.
module _ (w : List ℕ) (f : Frame) (is : f ≡ framed (shape_in w)) (sdi : Bool) (some : place_in w 3 % 2 ≡ 0 → ⊥) where
  abbrev s : Shape
  s = shape_in w

  abbrev u : Under
  u = under_in w

  abbrev e : ℕ
  e = place_in w 6 % 256

  g : Numbers s f
  g = numbers is

  goes_on : clocked s sdi (engine_in w)
      ≡ (when ltb (e + 1) (last_edge s) then shifted s sdi u (engine_in w) else finished (received_after s sdi u) (engine_in w))
  unfolding clocked byte_in
  goes_on = λ i. clocked_as s sdi (way_sends w some i) (engine_in w)

  -- What is received: a bit more where it samples.
  pub takes : {received : ℕ} → (e + 1) % 2 ≡ 0 → f.lead < e + 1 → received ≡ shifted_in (place_in w 7) sdi → received ≡ received_after s sdi u
  unfolding received_after samples byte_in when◌then◌else◌
  takes even beyond same = rw (← g.lead, eq-eqb ((e + 1) % 2) 0 even, lt-ltb f.lead (e + 1) beyond) same

  skips : (eqb ((e + 1) % 2) 0 && ltb f.lead (e + 1)) ≡ false → place_in w 7 ≡ received_after s sdi u
  unfolding received_after samples byte_in when◌then◌else◌
  skips test = rw (← g.lead, test)

  pub skips_first : ((e + 1) % 2 ≡ 0 → ⊥) → place_in w 7 ≡ received_after s sdi u
  skips_first odd = skips (and_first _ _ (ne_eqb ((e + 1) % 2) 0 odd))

  pub skips_lead : e + 1 ≤ f.lead → place_in w 7 ≡ received_after s sdi u
  skips_lead early = skips (and-false (eqb ((e + 1) % 2) 0) _ (le-ltb f.lead (e + 1) early))

  -- The edges counted, with SDO or with the received bits.
  abbrev onward : ℕ → ℕ → Way
  onward edges received =
      when bit_in (place_in w 3)
      then sends (record { filler = u.filler; word = u.word; edges = byte_in edges; received = received })
      else idle

  onward-is : (edge received : ℕ) → edge < 256 →
      onward edge received ≡ sends (record { filler = u.filler; word = u.word; edges = edge; received = received })
  unfolding byte_in
  onward-is edge received small =
      if_true (bit_in (place_in w 3)) _ _ (bit_on (place_in w 3) some)
      ∙ ap (λ (k : ℕ). sends (record { filler = u.filler; word = u.word; edges = k; received = received })) (mod-eq_of_lt small)

  wrote-sdo : length w ≡ 40 → (sdo edges : ℕ) →
      Moves (λ _ n. with_way (onward edges (place_in w 7)) (with_sdo (bit_in sdo) n)) w (set (set w 10 sdo) 6 edges)
  unfolding when◌then◌else◌ samples_at
  wrote-sdo n sdo edges = wrote w (at 10 sdo ∷ at 6 edges ∷ []) n refl refl refl

  wrote-received : length w ≡ 40 → (received edges : ℕ) →
      Moves (λ _ n. with_way (onward edges received) n) w (set (set w 7 received) 6 edges)
  unfolding when◌then◌else◌ samples_at
  wrote-received n received edges = wrote w (at 7 received ∷ at 6 edges ∷ []) n refl refl refl

  wrote-edges : length w ≡ 40 → (edges : ℕ) → Moves (λ _ n. with_way (onward edges (place_in w 7)) n) w (set w 6 edges)
  unfolding when◌then◌else◌ samples_at
  wrote-edges n edges = wrote w (at 6 edges ∷ []) n refl refl refl

  small : e + 1 < f.last → e + 1 < 256
  small short = omega (arith, (frame_small w f is).0)

  -- A step short of the last edge.
  short_of : e + 1 < f.last → clocked s sdi (engine_in w) ≡ shifted s sdi u (engine_in w)
  short_of short = goes_on ∙ if_true (ltb (e + 1) (last_edge s)) _ _ (lt-ltb (e + 1) (last_edge s) (omega (arith, g.last)))

  pub clock_shown : length w ≡ 40 → (sdo : ℕ) → e + 1 < f.last → e % 2 ≡ 0 → bit_in sdo ≡ shown_bit f (place_in w 5) e →
      Moves (λ s. clocked s sdi) w (set (set w 10 sdo) 6 (e + 1))
  unfolding shifted byte_in
  clock_shown n sdo short even bit =
      alike (wrote-sdo n sdo (e + 1))
      (cc (
        onward-is (e + 1) (place_in w 7) (small short),
        skips_first (λ h. omega arith),
        shown_same w f is (place_in w 5) e even short,
        if_true (eqb (e % 2) 0) (channel_bit s u.word (e / 2)) (engine_in w).pins.sdo (eq-eqb (e % 2) 0 even),
        short_of short,
      ))

  -- SDO stays at a clock's second edge.
  sdo-stays : (e % 2 ≡ 0 → ⊥) → (when eqb (e % 2) 0 then channel_bit s u.word (e / 2) else (engine_in w).pins.sdo) ≡ (engine_in w).pins.sdo
  sdo-stays odd = if_false (eqb (e % 2) 0) _ _ (ne_eqb (e % 2) 0 odd)

  second-edge : (e % 2 ≡ 0 → ⊥) → (received : ℕ) → received ≡ received_after s sdi u → e + 1 < f.last →
      with_way (onward (e + 1) received) (engine_in w) ≡ clocked s sdi (engine_in w)
  unfolding shifted byte_in engine_in
  second-edge odd received same short = cc (onward-is (e + 1) received (small short), sdo-stays odd, short_of short)

  pub clock_sampled : length w ≡ 40 → (received : ℕ) → e + 1 < f.last → (e % 2 ≡ 0 → ⊥) → f.lead < e + 1 →
      received ≡ shifted_in (place_in w 7) sdi → Moves (λ s. clocked s sdi) w (set (set w 7 received) 6 (e + 1))
  clock_sampled n received short odd beyond same =
      alike (wrote-received n received (e + 1)) (second-edge odd received (takes (omega arith) beyond same) short)

  pub clock_lead : length w ≡ 40 → e + 1 < f.last → (e % 2 ≡ 0 → ⊥) → e + 1 ≤ f.lead → Moves (λ s. clocked s sdi) w (set w 6 (e + 1))
  clock_lead n short odd early = alike (wrote-edges n (e + 1)) (second-edge odd (place_in w 7) (skips_lead early) short)

  -- The last edge.
  pub clock_finish : (received : ℕ) {later : List ℕ} → f.last ≤ e + 1 → received ≡ received_after s sdi u →
      Moves (λ s. finished received) w later → Moves (λ s. clocked s sdi) w later
  clock_finish received last same m =
      let ends : ltb (e + 1) (last_edge s) ≡ false = le-ltb (e + 1) (last_edge s) (omega (arith, g.last)) in
      alike m (cc (goes_on, if_false (ltb (e + 1) (last_edge s)) (shifted s sdi u (engine_in w)) _ ends))

-- The turn of the frame.
module _ (w : List ℕ) (n : length w ≡ 40) (f : Frame) (is : f ≡ framed (shape_in w)) (sck lrck : ℕ)
    (sck_is : bit_in sck ≡ eqb (place_in w 8 % 2) 0)
    (lrck-is : bit_in lrck ≡ not (Bool·beq (ltb (place_in w 2 % 256) f.active) f.rest)) where
  wrote_turn : (place : ℕ) →
      Moves
      (λ _ e.
      record {
        place = byte_in place;
        waiting = e.waiting;
        way = e.way;
        unread = e.unread;
        pins = record { sck = bit_in sck; lrck = bit_in lrck; sdo = e.pins.sdo };
        flags = e.flags;
      })
      w (set (set (set w 8 sck) 9 lrck) 2 place)
  unfolding when◌then◌else◌ samples_at
  wrote_turn place = wrote w (at 8 sck ∷ at 9 lrck ∷ at 2 place ∷ []) n refl refl refl

  turned_sck : bit_in sck ≡ not (engine_in w).pins.sck
  unfolding engine_in bit_in
  turned_sck =
      sck_is
      ∙ by_test (eqb (place_in w 8 % 2) 0)
      (λ g. let even : place_in w 8 % 2 ≡ 0 = eqb-true (place_in w 8 % 2) 0 g in rw (g, ne_eqb (place_in w 8 % 2) 1 (λ h. omega arith)))
      (λ g. let odd : place_in w 8 % 2 ≡ 0 → ⊥ = eqb-false (place_in w 8 % 2) 0 g in rw (g, eq-eqb (place_in w 8 % 2) 1 (omega arith)))

  turned-lrck : bit_in lrck ≡ lrck_at (shape_in w) (engine_in w).place
  unfolding engine_in byte_in lrck_at when◌then◌else◌
  turned-lrck =
      rw (lrck-is, (numbers is).active, (numbers is).rest) (chosen (ltb (place_in w 2 % 256) (2 * (shape_in w).active)) (shape_in w).rest)
    where
      chosen : (t r : Bool) → not (Bool·beq t r) ≡ (when t then not r else r)
      chosen true true = refl
      chosen true false = refl
      chosen false true = refl
      chosen false false = refl

  turn-to : (place : ℕ) → byte_in place ≡ next (2 * (shape_in w).frame) (engine_in w).place →
      Moves turned w (set (set (set w 8 sck) 9 lrck) 2 place)
  unfolding turned
  turn-to place same =
      alike (wrote_turn place) (cc (turned_sck, turned-lrck))

  pub turn_on : place_in w 2 % 256 + 1 < f.edges → Moves turned w (set (set (set w 8 sck) 9 lrck) 2 (place_in w 2 % 256 + 1))
  unfolding next engine_in byte_in when◌then◌else◌
  turn_on short =
      turn-to (place_in w 2 % 256 + 1)
      (rw (lt-ltb (place_in w 2 % 256 + 1) (2 * (shape_in w).frame) (omega (arith, (numbers is).edges)))
      (mod-eq_of_lt (omega (arith, (frame_small w f is).1))))

  pub turn_round : f.edges ≤ place_in w 2 % 256 + 1 → Moves turned w (set (set (set w 8 sck) 9 lrck) 2 0)
  unfolding next engine_in byte_in when◌then◌else◌
  turn_round last =
      turn-to 0 (rw (le-ltb (place_in w 2 % 256 + 1) (2 * (shape_in w).frame) (omega (arith, (numbers is).edges))))

-- A whole edge.
pub edge_disabled : (w : List ℕ) (sdi : Bool) → (head_in w).enabled ≡ false → Gives (edge_of (card_in w) sdi) (refused is_disabled) w w
unfolding edge_of
edge_disabled w sdi e = gives_so (not (head_in w).enabled) _ _ (ap not e) (refusing is_disabled w)

-- A frame is that of the memory after a step too.
pub frame_still : {g : Shape → Engine → Engine} {a b : List ℕ} {f : Frame} → f ≡ framed (shape_in a) → Moves g a b → f ≡ framed (shape_in b)
frame_still is m = is ∙ ap (λ (h : Head). framed (shape_of h.settings)) (sym m.head)

pub frame_here : (w : List ℕ) {f : Frame} → f ≡ framed (shape_of (settings_from (place_in w 1))) → f ≡ framed (shape_in w)
unfolding head_in
frame_here w e = e

pub edge_done : (sdi : Bool) {w a b c : List ℕ} → (head_in w).enabled ≡ true → Moves begun w a → Moves (λ s. clocked s sdi) a b →
    Moves turned b c → Gives (edge_of (card_in w) sdi) done w c
unfolding edge_of
edge_done sdi {w = w} on x y z =
    gives_not (not (head_in w).enabled) _ _ (ap not on) (done_with (moved_card (both (both x y) z)))
