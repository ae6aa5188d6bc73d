-- An edge moves a card from stage to stage.
--     edged_open, edged-first   an edge within a channel, and at its first place
--     Moves        what an edge leaves of a channel: what is under way, and SDO
--     edge_stage   an edge keeps the card at a stage, and a first place adds the sample that is taken
-- Assumes nothing.
use Rattle.std.specs.Prelude.{◌+◌, ◌*◌, ◌-◌, ◌/◌, ◌%◌, ◌≤◌, ◌<◌, ◌&&◌, ◌∷◌, ◌++◌, ◌≡◌}
use Rattle.laws.proofs.Common.{ℕ, suc, Bool, true, false, List, []}
use Rattle.laws.proofs.Common.{refl, sym, ap, ap₂, subst, ◌∙◌, arith, eqb-true, eqb-false, ltb-true, ltb-false, le-ltb, ltb}
use Rattle.laws.proofs.Common.{leb, eqb, length, get_or, length-append, when◌then◌else◌, if_keeps, if_true, if_false, and-false}
use Rattle.laws.proofs.Common.{by_test, clash}
use Rattle.ring.specs.Ring.{next}
use Rattle.word_order.specs.Port.{Under, Way, idle, sends}
use Rattle.card_rules.specs.Settings.{Shape}
use Rattle.card_rules.specs.Card.{Engine}
use Rattle.card_rules.specs.Edge.{at_first_place, taken, begun_from, begun, last_edge, channel_bit, shifted, is_full, finished, opened, clocked_as, clocked, turned, edged}
use Rattle.card_order.specs.Invariant.{Fits}
use Rattle.card_order.proofs.EdgeWords.{edged_place}
use Rattle.card_placing.specs.Stage.{clocks_of, wrapped, WayAt, Stage, starting, running}
use Rattle.card_placing.proofs.Channels.{first_next, wrapped_in, wrapped_next, is_first, not_first, channel_open, channel_end, spot_parity, last_within, spot_next, spot_turn, first_zero}

-- Behind its bits a channel is open.
pub channel_after : (s : Shape) (sample k : ℕ) → s.lead + s.bits ≤ k → channel_bit s sample k ≡ false
unfolding channel_bit
channel_after s sample k h =
    if_false (leb s.lead k && ltb k (s.lead + s.bits)) _ _ (and-false (leb s.lead k) _ (le-ltb k (s.lead + s.bits) h))

-- An edge, by what is under way at it.
module _ (s : Shape) (sdi : Bool) (n : Engine) where
  edged_by : {x : Engine} → begun s n ≡ x →
      ((edged s sdi n).way ≡ (clocked_as s sdi x.way x).way) × ((edged s sdi n).pins.sdo ≡ (clocked_as s sdi x.way x).pins.sdo)
  unfolding turned clocked
  edged_by e = (λ i. (clocked_as s sdi (e i).way (e i)).way, λ i. (clocked_as s sdi (e i).way (e i)).pins.sdo)

  edged_open : at_first_place s n.place ≡ false →
      ((edged s sdi n).way ≡ (clocked_as s sdi n.way n).way) × ((edged s sdi n).pins.sdo ≡ (clocked_as s sdi n.way n).pins.sdo)
  unfolding begun
  edged_open e = edged_by (if_false (at_first_place s n.place) _ _ e)

  edged-first : at_first_place s n.place ≡ true → n.way ≡ idle →
      let x : Engine = taken n.waiting n in
      ((edged s sdi n).way ≡ (clocked_as s sdi x.way x).way) × ((edged s sdi n).pins.sdo ≡ (clocked_as s sdi x.way x).pins.sdo)
  unfolding begun
  edged-first e rests = edged_by (if_true (at_first_place s n.place) _ _ e ∙ (λ i. begun_from (rests i) n))

  -- The edge of the frame that comes next, within the frame or behind it.
  edged-wrapped : n.place < 2 * s.frame → (edged s sdi n).place ≡ wrapped s (n.place + 1)
  edged-wrapped h = rw (edged_place s sdi n, ← (wrapped_next s n.place (omega arith)), wrapped_in s n.place h)

-- What an edge leaves, `e` edges of the channel having been given before it.
pub record Moves (s : Shape) (sample e : ℕ) (later : Way) (level : Bool) : Type 0 where
  pub way : WayAt s sample (e + 1) later
  pub sdo : level ≡ channel_bit s sample (e / 2)

finished_sdo : (received : ℕ) (n : Engine) → (finished received n).pins.sdo ≡ n.pins.sdo
unfolding finished
finished_sdo received n =
    if_keeps (λ (x : Engine). x.pins.sdo ≡ n.pins.sdo) (is_full n.unread) _ _ (λ e. refl) (λ e. refl)

-- An edge of a sample: `sdo` stood right for the edge before it, unless this is the first.
sample_moves : (s : Shape) (sdi : Bool) (sample e : ℕ) (u : Under) (n : Engine) → u.edges ≡ e → u.word ≡ sample → e < last_edge s →
    (1 ≤ e → n.pins.sdo ≡ channel_bit s sample ((e - 1) / 2)) →
    Moves s sample e (clocked_as s sdi (sends u) n).way (clocked_as s sdi (sends u) n).pins.sdo
unfolding shifted finished
sample_moves s sdi sample e u n same is short stood =
    if_keeps (λ (x : Engine). Moves s sample e x.way x.pins.sdo) (ltb (u.edges + 1) (last_edge s)) _ _
    (λ g.
    let more : u.edges + 1 < last_edge s = ltb-true (u.edges + 1) (last_edge s) g in
    record {
      way = record { sending = λ h. (_, refl, ap (λ (k : ℕ). k + 1) same, is); ended = λ h. absurd (omega arith) };
      sdo =
          if_keeps (λ (b : Bool). b ≡ channel_bit s sample (e / 2)) (eqb (u.edges % 2) 0) _ _
          (λ h. ap₂ (λ (w k : ℕ). channel_bit s w (k / 2)) is same)
          (λ h.
          let odd : u.edges % 2 ≡ 0 → ⊥ = eqb-false (u.edges % 2) 0 h in
          let half : (e - 1) / 2 ≡ e / 2 = omega arith in
          stood (omega arith) ∙ ap (channel_bit s sample) half);
    })
    (λ g.
    let last : last_edge s ≤ u.edges + 1 = ltb-false (u.edges + 1) (last_edge s) g in
    record {
      way = record { sending = λ h. absurd (omega arith); ended = λ h. refl };
      sdo =
          let half : (e - 1) / 2 ≡ e / 2 = omega arith in
          finished_sdo _ n ∙ stood (omega arith) ∙ ap (channel_bit s sample) half;
    })

-- An edge behind a sample.
open_moves : (s : Shape) (sdi : Bool) (sample e : ℕ) (n : Engine) → n.way ≡ idle → last_edge s ≤ e → n.place % 2 ≡ e % 2 →
    n.pins.sdo ≡ channel_bit s sample ((e - 1) / 2) → 1 ≤ e →
    Moves s sample e (clocked_as s sdi idle n).way (clocked_as s sdi idle n).pins.sdo
unfolding opened
open_moves s sdi sample e n rests behind parity stood some =
    record {
      way = record { sending = λ h. absurd (omega arith); ended = λ h. rests };
      sdo =
          if_keeps (λ (b : Bool). b ≡ channel_bit s sample (e / 2)) (eqb (n.place % 2) 0) _ _
          (λ h. sym (channel_after s sample (e / 2) (omega arith)))
          (λ h.
          let odd : n.place % 2 ≡ 0 → ⊥ = eqb-false (n.place % 2) 0 h in
          let half : (e - 1) / 2 ≡ e / 2 = omega arith in
          stood ∙ ap (channel_bit s sample) half);
    }

-- A sample is taken, zeros if none waits, and given its first edge.
first_moves : (s : Shape) → Fits s → (sdi : Bool) (n : Engine) → at_first_place s n.place ≡ true → n.way ≡ idle →
    Moves s (get_or n.waiting 0 0) 0 (edged s sdi n).way (edged s sdi n).pins.sdo
first_moves s f sdi n first rests =
    rw ((edged-first s sdi n first rests).0, (edged-first s sdi n first rests).1) (go n.waiting)
  where
    go : (waiting : List ℕ) →
        let x : Engine = taken waiting n in
        Moves s (get_or waiting 0 0) 0 (clocked_as s sdi x.way x).way (clocked_as s sdi x.way x).pins.sdo
    go [] = sample_moves s sdi 0 0 _ (taken [] n) refl refl (omega (arith, f.some)) (λ h. absurd (omega arith))
    go (sample ∷ rest) =
        sample_moves s sdi sample 0 _ (taken (sample ∷ rest) n) refl refl (omega (arith, f.some)) (λ h. absurd (omega arith))

abbrev pub samples_then : Bool → List ℕ → List ℕ → List ℕ
samples_then first samples waiting = when first then samples ++ (get_or waiting 0 0 ∷ []) else samples

-- An edge.
pub edge_stage : (s : Shape) → Fits s → (sdi : Bool) (n : Engine) (count : ℕ) (samples : List ℕ) →
    Stage s count n.place n.way n.pins.sdo samples →
    Stage s ((count + 1)) (edged s sdi n).place (edged s sdi n).way (edged s sdi n).pins.sdo
    (samples_then (at_first_place s n.place) samples n.waiting)
unfolding opened
edge_stage s f sdi n count samples (starting none rests same within low) =
    let on : (edged s sdi n).place ≡ wrapped s (n.place + 1) = edged-wrapped s sdi n (omega (arith, f.inside)) in
    by_test (eqb n.place (2 * s.before))
    (λ g.
    let here : n.place ≡ 2 * s.before = eqb-true n.place (2 * s.before) g in
    let first : at_first_place s n.place ≡ true = is_first s n.place here in
    let m = first_moves s f sdi n first rests in
    let behind : n.place + 1 ≡ 2 * (s.before + 0) + 1 = omega arith in
    running 0 1 (get_or n.waiting 0 0) [] (rw (if_true (at_first_place s n.place) _ _ first, none)) refl (omega (arith, first_zero s))
    (omega arith) (omega (arith, f.left, f.some)) (on ∙ ap (wrapped s) behind) m.way m.sdo)
    (λ g.
    let away : n.place ≡ 2 * s.before → ⊥ = eqb-false n.place (2 * s.before) g in
    let no' : at_first_place s n.place ≡ false = not_first s n.place away (λ x. omega (arith, f.left, f.some)) in
    let next : (edged s sdi n).place ≡ n.place + 1 = on ∙ wrapped_in s (n.place + 1) (omega (arith, f.inside)) in
    starting (if_false (at_first_place s n.place) _ _ no' ∙ none)
    ((edged_open s sdi n no').0 ∙ ap (λ (w : Way). (clocked_as s sdi w n).way) rests ∙ rests) (omega arith) (omega arith)
    ((edged_open s sdi n no').1
    ∙ ap (λ (w : Way). (clocked_as s sdi w n).pins.sdo) rests
    ∙ if_keeps (λ (b : Bool). b ≡ false) (eqb (n.place % 2) 0) _ _ (λ h. refl) (λ h. low)))
edge_stage s f sdi n count samples (running j e sample front all size sum some most here way shows) =
    by_test (ltb e (2 * clocks_of s (j % 2)))
    (λ g.
    let short : e < 2 * clocks_of s (j % 2) = ltb-true e (2 * clocks_of s (j % 2)) g in
    let no' : at_first_place s n.place ≡ false = ap (at_first_place s) here ∙ channel_open s f (j % 2) e some short in
    let m : Moves s sample e (edged s sdi n).way (edged s sdi n).pins.sdo =
    rw ((edged_open s sdi n no').0, (edged_open s sdi n no').1)
    (by_test (ltb e (last_edge s))
    (λ h.
    let k = way.sending (ltb-true e (last_edge s) h) in
    subst (λ (w : Way). Moves s sample e (clocked_as s sdi w n).way (clocked_as s sdi w n).pins.sdo) (sym k.1)
    (sample_moves s sdi sample e k.0 n k.2 k.3 (ltb-true e (last_edge s) h) (λ x. shows)))
    (λ h.
    let behind : last_edge s ≤ e = ltb-false e (last_edge s) h in
    subst (λ (w : Way). Moves s sample e (clocked_as s sdi w n).way (clocked_as s sdi w n).pins.sdo) (sym (way.ended behind))
    (open_moves s sdi sample e n (way.ended behind) behind (ap (λ (x : ℕ). x % 2) here ∙ spot_parity s (j % 2) e) shows some))) in
    let half : e / 2 ≡ (e + 1 - 1) / 2 = omega arith in
    running j ((e + 1)) sample front (if_false (at_first_place s n.place) _ _ no' ∙ all) size (omega arith) (omega arith) (omega arith)
    (edged_place s sdi n ∙ ap (next (2 * s.frame)) here ∙ spot_next s f (j % 2) e most) m.way
    (m.sdo ∙ ap (channel_bit s sample) half))
    (λ g.
    let least : 2 * clocks_of s (j % 2) ≤ e = ltb-false e (2 * clocks_of s (j % 2)) g in
    let end : e ≡ 2 * clocks_of s (j % 2) = omega arith in
    let first : at_first_place s n.place ≡ true = ap (at_first_place s) here ∙ channel_end s f (j % 2) e end in
    let rests : n.way ≡ idle = way.ended (omega (arith, last_within s f (j % 2))) in
    let m = first_moves s f sdi n first rests in
    let more : length samples ≡ suc j = ap length all ∙ rw (length-append front (sample ∷ [])) (omega arith) in
    running (suc j) 1 (get_or n.waiting 0 0) samples (if_true (at_first_place s n.place) _ _ first) more
    (omega (arith, first_next s f j)) (omega arith) (omega (arith, last_within s f (suc j % 2), f.some))
    (edged_place s sdi n ∙ ap (next (2 * s.frame)) here ∙ spot_next s f (j % 2) e most ∙ spot_turn s f j e end) m.way m.sdo)

-- Nothing is under way at a first place.
pub first_idle : (s : Shape) → Fits s → (count place : ℕ) (way : Way) (sdo : Bool) (samples : List ℕ) → Stage s count place way sdo samples →
    at_first_place s place ≡ true → way ≡ idle
first_idle s f count place way sdo samples (starting none rests same within low) first = rests
first_idle s f count place way sdo samples (running j e sample front all size sum some most here ways shows) first =
    by_test (ltb e (2 * clocks_of s (j % 2)))
    (λ g.
    clash (at_first_place s place) first
    (ap (at_first_place s) here ∙ channel_open s f (j % 2) e some (ltb-true e (2 * clocks_of s (j % 2)) g)))
    (λ g.
    let least : 2 * clocks_of s (j % 2) ≤ e = ltb-false e (2 * clocks_of s (j % 2)) g in
    ways.ended (omega (arith, last_within s f (j % 2))))
