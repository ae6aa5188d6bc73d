-- The placing of bits, once over protocol, length and frame.
--     sdo_shown_lem      what SDO shows, by the edges since enabling
--     bits_placed    bit i of channel j in its clock, and 0 in every other
--     sdi_unheard    SDI counts at the second edge of a clock with a bit alone
-- Assumes nothing.
use Rattle.std.specs.Prelude.{◌+◌, ◌*◌, ◌-◌, ◌/◌, ◌%◌, ◌≤◌, ◌<◌, ◌&&◌, ◌∷◌, ◌++◌, ◌≡◌}
use Rattle.laws.proofs.Common.{ℕ, suc, Bool, true, false, List, []}
use Rattle.laws.proofs.Common.{refl, sym, ap, ◌∙◌, add-zero, mod-eq_of_lt, div-eq_of_lt, mul-add-div_right, arith, eqb-true}
use Rattle.laws.proofs.Common.{eqb-false, ltb-true, ltb-false, leb-true, le-leb, lt-leb, ltb, leb, eqb, length, get_or}
use Rattle.laws.proofs.Common.{when◌then◌else◌, if_keeps, if_false, by_test, and_left, and_right, and_first, and-false}
use native.Mathlib.Nat.{mul-add-mod_self_right}
use Rattle.word_order.specs.Bits.{bit_of}
use Rattle.word_order.specs.Port.{Under, Way, idle, sends}
use Rattle.card_rules.specs.Settings.{named, Settings, Shape, shape_of}
use Rattle.card_rules.specs.Card.{Engine}
use Rattle.card_rules.specs.Edge.{at_first_place, samples, last_edge, channel_bit, received_after, shifted, clocked_as, clocked, taken, begun, begun_from, turned, edged}
use Rattle.card_rules.specs.Figures.{bit_clock, bit_shown, sdo_expected}
use Rattle.card_rules.specs.CardDemands.{Placed}
use Rattle.card_order.specs.Invariant.{Fits}
use Rattle.card_order.proofs.Sampling.{channel_bit_lem, samples_odd, sampling}
use Rattle.card_order.proofs.FiguresHold.{named_fits, same_figures}
use Rattle.card_placing.specs.Stage.{first_place, clocks_of, Stage, starting, running}
use Rattle.card_placing.proofs.Channels.{first_next, last_within, first_zero, first_rises, one_channel}
use Rattle.card_placing.proofs.Stages.{first_idle}

-- The clock of a bit.
clock_same : (x : Settings) (j i : ℕ) → bit_clock x j i ≡ first_place (shape_of x) j + (shape_of x).lead + i
unfolding first_place
clock_same x j i = let s = same_figures x in rw (s.lead, s.step, s.before, ← s.frame) (omega arith)

-- What SDO shows in clock k, by the shape.
module _ (s : Shape) where
  abbrev right : ℕ → Bool
  right k = leb s.step ((k - s.before) % s.frame)

  abbrev channel : ℕ → ℕ
  channel k = 2 * ((k - s.before) / s.frame) + (when right k then 1 else 0)

  abbrev clock : ℕ → ℕ
  clock k = (k - s.before) % s.frame - (when right k then s.step else 0)

  abbrev shown_at : List ℕ → ℕ → Bool
  shown_at took k =
      leb s.before k
      && (leb s.lead (clock k)
      && (ltb (clock k) (s.lead + s.bits) && bit_of (get_or took (channel k) 0) (s.bits - 1 - (clock k - s.lead))))

shown_same : (x : Settings) (took : List ℕ) (k : ℕ) → bit_shown x took k ≡ shown_at (shape_of x) took k
shown_same x took k = let s = same_figures x in rw (s.lead, s.step, s.before, ← s.frame, ← s.bits)

-- Clock number c of channel j.
module _ (s : Shape) (f : Fits s) (j c : ℕ) (short : c < clocks_of s (j % 2)) where
  abbrev k : ℕ
  k = first_place s j + c

  -- the clocks since the left channel's first place
  abbrev since : ℕ
  since = j % 2 * s.step + c

  -- a left channel, or a right one
  by_side : {A : Type 0} → (j % 2 ≡ 0 → c < s.step → A) → (j % 2 ≡ 1 → c < s.frame - s.step → A) → A
  by_side left right =
      by_test (eqb (j % 2) 0)
      (λ e. let z : j % 2 ≡ 0 = eqb-true (j % 2) 0 e in left z (rw z at short))
      (λ e.
      let odd : j % 2 ≡ 0 → ⊥ = eqb-false (j % 2) 0 e in
      let z : j % 2 ≡ 1 = omega arith in right z (rw z at short))

  since-small : since < s.frame
  since-small =
      by_side (λ z h. rw z (omega (arith, f.right, f.some))) (λ z h. rw z (omega (arith, f.right, f.some)))

  apart_from : k - s.before ≡ j / 2 * s.frame + since
  unfolding first_place
  apart_from = omega arith

  frames : (k - s.before) / s.frame ≡ j / 2
  frames =
      rw (apart_from, mul-add-div_right {m = s.frame} (omega (arith, since-small)) (j / 2) since, div-eq_of_lt since-small)
      (add-zero (j / 2))

  rest : (k - s.before) % s.frame ≡ since
  rest = rw (apart_from, mul-add-mod_self_right (j / 2) s.frame since) (mod-eq_of_lt since-small)

  is_right : right s k ≡ eqb (j % 2) 1
  is_right =
      rw rest
      (by_side (λ z h. rw z (lt-leb s.step (0 * s.step + c) (omega arith)))
      (λ z h. rw z (le-leb s.step (1 * s.step + c) (omega arith))))

  its-channel : channel s k ≡ j
  unfolding when◌then◌else◌
  its-channel = rw (is_right, frames) (by_side (λ z h. rw z (omega arith)) (λ z h. rw z (omega arith)))

  its-clock : clock s k ≡ c
  unfolding when◌then◌else◌
  its-clock = rw (is_right, rest) (by_side (λ z h. rw z (omega arith)) (λ z h. rw z (omega arith)))

  shown-in : (took : List ℕ) → shown_at s took k ≡ channel_bit s (get_or took j 0) c
  unfolding channel_bit when◌then◌else◌
  shown-in took =
      let up : first_place s 0 ≤ first_place s j = first_rises s f 0 j (omega arith) in
      rw (its-channel, its-clock, le-leb s.before k (omega (arith, first_zero s)))
      (chosen (leb s.lead c) (ltb c (s.lead + s.bits)) _)
    where
      chosen : (a b t : Bool) → (a && (b && t)) ≡ (when a && b then t else false)
      chosen true true t = refl
      chosen true false t = refl
      chosen false b t = refl

last_is : (front : List ℕ) (word : ℕ) → get_or (front ++ (word ∷ [])) (length front) 0 ≡ word
last_is [] word = refl
last_is (y ∷ front) word = last_is front word

-- What SDO shows.
stage_shown : (s : Shape) → Fits s → (count place : ℕ) (way : Way) (sdo : Bool) (took : List ℕ) →
    Stage s count place way sdo took → sdo ≡ (leb 1 count && shown_at s took ((count - 1) / 2))
stage_shown s f count place way sdo took (starting none rests same within low) =
    low
    ∙ sym
    (by_test (leb 1 count)
    (λ e.
    let some : 1 ≤ count = leb-true 1 count e in
    and-false (leb 1 count) _ (and_first (leb s.before ((count - 1) / 2)) _ (lt-leb s.before ((count - 1) / 2) (omega arith))))
    (λ e. and_first (leb 1 count) _ e))
stage_shown s f count place way sdo took (running j e sample front all size sum some most here ways shows) =
    let c : ℕ = (e - 1) / 2 in
    let short : c < clocks_of s (j % 2) = omega arith in
    let at : (count - 1) / 2 ≡ first_place s j + c = omega arith in
    let its : get_or took j 0 ≡ sample = rw (all, ← size) (last_is front sample) in
    rw (le-leb 1 count (omega arith), at, shown-in s f j c short took, its) shows

pub sdo_shown_lem : (x : Settings) → named x.bits x.frame ≡ true → (n : Engine) (count : ℕ) (took : List ℕ) →
    Stage (shape_of x) count n.place n.way n.pins.sdo took → n.pins.sdo ≡ sdo_expected x took count
sdo_shown_lem x e n count took stage =
    rw (shown_same x took ((count - 1) / 2))
    (stage_shown (shape_of x) (named_fits x e) count n.place n.way n.pins.sdo took stage)

-- A clock of a channel without a bit shows 0.
channel_else : (s : Shape) (sample c : ℕ) → ((i : ℕ) → i < s.bits → c ≡ s.lead + i → ⊥) → channel_bit s sample c ≡ false
unfolding channel_bit
channel_else s sample c none =
    by_test (leb s.lead c && ltb c (s.lead + s.bits))
    (λ e.
    let from : s.lead ≤ c = leb-true s.lead c (and_left (leb s.lead c) _ e) in
    let to : c < s.lead + s.bits = ltb-true c (s.lead + s.bits) (and_right (leb s.lead c) _ e) in
    absurd (none (c - s.lead) (omega arith) (omega arith)))
    (λ e. if_false (leb s.lead c && ltb c (s.lead + s.bits)) _ _ e)

-- The same by bits.
stage_bits : (s : Shape) → Fits s → (count place : ℕ) (way : Way) (sdo : Bool) (took : List ℕ) → 1 ≤ count →
    Stage s count place way sdo took →
    ((j i : ℕ) → i < s.bits → (count - 1) / 2 ≡ first_place s j + s.lead + i → sdo ≡ bit_of (get_or took j 0) (s.bits - 1 - i))
    × (((j i : ℕ) → i < s.bits → (count - 1) / 2 ≡ first_place s j + s.lead + i → ⊥) → sdo ≡ false)
stage_bits s f count place way sdo took some (starting none rests same within low) = (
  λ j i small here.
      let up : first_place s 0 ≤ first_place s j = first_rises s f 0 j (omega arith) in
      let z : first_place s 0 ≡ s.before = first_zero s in
      absurd (omega arith),
  λ no'. low,
)
stage_bits s f count place way sdo took some (running j e sample front all size sum least most here ways shows) =
    let c : ℕ = (e - 1) / 2 in
    let k : ℕ = (count - 1) / 2 in
    let at : k ≡ first_place s j + c = omega arith in
    let next : first_place s (suc j) ≡ first_place s j + clocks_of s (j % 2) = first_next s f j in (
      λ l i small there.
          let after : first_place s (suc l) ≡ first_place s l + clocks_of s (l % 2) = first_next s f l in
          let room : last_edge s ≤ 2 * clocks_of s (l % 2) = last_within s f (l % 2) in
          let same : l ≡ j = one_channel s f l j k (omega arith) (omega arith) (omega arith) (omega arith) in
          let first : first_place s l ≡ first_place s j = ap (first_place s) same in
          let its : get_or took l 0 ≡ sample = rw (all, same, ← size) (last_is front sample) in
          let in-clock : c ≡ s.lead + i = omega arith in
          let down : c - s.lead ≡ i = omega arith in
          rw (its, ← down) (shows ∙ channel_bit_lem s sample c (omega arith) (omega arith)),
      λ no'.
          shows
          ∙ channel_else s sample c
          (λ i small is. no' j i small (let there : k ≡ first_place s j + s.lead + i = omega arith in there)),
    )

pub bits_placed : (x : Settings) → named x.bits x.frame ≡ true → (n : Engine) (count : ℕ) (took : List ℕ) → 1 ≤ count →
    Stage (shape_of x) count n.place n.way n.pins.sdo took → Placed x took ((count - 1) / 2) n.pins.sdo
bits_placed x e n count took some stage =
    let s : Shape = shape_of x in
    let same : x.bits ≡ s.bits = (same_figures x).bits in
    let b = stage_bits s (named_fits x e) count n.place n.way n.pins.sdo took some stage in
    record {
      bit = λ j i small here. rw same (b.0 j i (omega arith) (here ∙ clock_same x j i));
      other = λ no'. b.1 (λ j i small here. no' j i (omega arith) (here ∙ sym (clock_same x j i)));
    }

-- SDI counts where an edge samples, and nowhere else.
received_deaf : (s : Shape) (u : Under) → samples s (u.edges + 1) ≡ false → received_after s true u ≡ received_after s false u
unfolding received_after when◌then◌else◌
received_deaf s u e = rw e

clocked_deaf : (s : Shape) (way : Way) (n : Engine) → ((u : Under) → way ≡ sends u → samples s (u.edges + 1) ≡ false) →
    clocked_as s true way n ≡ clocked_as s false way n
unfolding shifted
clocked_deaf s idle n h = refl
clocked_deaf s (sends u) n h = rw (received_deaf s u (h u refl))

edged_deaf : (s : Shape) (n : Engine) → ((u : Under) → (begun s n).way ≡ sends u → samples s (u.edges + 1) ≡ false) →
    edged s true n ≡ edged s false n
unfolding clocked
edged_deaf s n h = ap (turned s) (clocked_deaf s (begun s n).way (begun s n) h)

same_under : (u v : Under) → sends u ≡ sends v → u ≡ v
same_under u v e = cc

-- A sample that has just begun is deaf.
fresh_deaf : (s : Shape) (waiting : List ℕ) (n : Engine) (u : Under) → (taken waiting n).way ≡ sends u → samples s (u.edges + 1) ≡ false
fresh_deaf s [] n u e = cc (samples_odd s 1 refl)
fresh_deaf s (sample ∷ rest) n u e = cc (samples_odd s 1 refl)

begun_deaf : (s : Shape) → Fits s → (n : Engine) (count : ℕ) (took : List ℕ) →
    Stage s count n.place n.way n.pins.sdo took →
    ((j i : ℕ) → i < s.bits → count ≡ 2 * (first_place s j + s.lead + i) + 1 → ⊥) →
    (u : Under) → (begun s n).way ≡ sends u → samples s (u.edges + 1) ≡ false
unfolding begun
begun_deaf s f n count took stage none u =
    if_keeps (λ (b : Engine). b.way ≡ sends u → samples s (u.edges + 1) ≡ false) (at_first_place s n.place) _ _
    (λ first is.
    fresh_deaf s n.waiting n u
    (ap (λ (w : Way). (begun_from w n).way) (sym (first_idle s f count n.place n.way n.pins.sdo took stage first)) ∙ is))
    (λ no' is. within stage is)
  where
    no_way : idle ≡ sends u → samples s (u.edges + 1) ≡ false
    no_way g = cc

    within : Stage s count n.place n.way n.pins.sdo took → n.way ≡ sends u → samples s (u.edges + 1) ≡ false
    within (starting empty rests same from low) is = no_way (sym rests ∙ is)
    within (running j e sample front all size sum some most here ways shows) is =
        by_test (ltb e (last_edge s))
        (λ g.
        let k = ways.sending (ltb-true e (last_edge s) g) in
        let edges : u.edges ≡ e = ap (λ (v : Under). v.edges) (same_under u k.0 (sym is ∙ k.1)) ∙ k.2 in
        by_test (samples s (u.edges + 1))
        (λ h.
        let t = sampling s (u.edges + 1) h in
        let short : e < last_edge s = ltb-true e (last_edge s) g in
        let even : (e + 1) % 2 ≡ 0 = ap (λ (v : ℕ). (v + 1) % 2) (sym edges) ∙ t.0 in
        let beyond : 2 * s.lead < u.edges + 1 = t.1 in
        let hit : count ≡ 2 * (first_place s j + s.lead + (e / 2 - s.lead)) + 1 = omega arith in
        absurd (none j (e / 2 - s.lead) (omega arith) hit))
        (λ h. h))
        (λ g. no_way (sym (ways.ended (ltb-false e (last_edge s) g)) ∙ is))

pub sdi_unheard : (x : Settings) → named x.bits x.frame ≡ true → (n : Engine) (count : ℕ) (took : List ℕ) →
    Stage (shape_of x) count n.place n.way n.pins.sdo took →
    ((j i : ℕ) → i < x.bits → count ≡ 2 * bit_clock x j i + 1 → ⊥) → edged (shape_of x) true n ≡ edged (shape_of x) false n
sdi_unheard x e n count took stage none =
    let s : Shape = shape_of x in
    let same : x.bits ≡ s.bits = (same_figures x).bits in
    edged_deaf s n
    (begun_deaf s (named_fits x e) n count took stage
    (λ j i small here. none j i (omega arith) (here ∙ ap (λ (k : ℕ). 2 * k + 1) (sym (clock_same x j i)))))
