-- A module at a word's beginning, and what its word call comes to there: nothing is given or received yet, so every value of the closed form is
-- one that the settings, the word and SDO tell.
--     Begins                an enabled unframed module that does not rest, for which the select level is nothing new
--     none_given, small, short   its word has no edge behind it, and nothing received
--     under                 its word is under way at the next edge
--     made, shown           its word call in closed form
--     first_word, first_word_lem the same, value by value
--     start_begins          a host with its own clock and a word to send is such a module, whatever the select level
-- Assumes nothing.
use Rattle.std.specs.Prelude.{◌+◌, ◌*◌, ◌-◌, ◌/◌, ◌%◌, ◌^◌, ◌<◌, ◌&&◌, ◌||◌, ◌≡◌}
use Rattle.laws.proofs.Common.{ℕ, Bool, true, false, not, Bool·beq, refl}
use Rattle.laws.proofs.Common.{ap, ap₂, ◌∙◌, mod-lt, arith, not-true, lt-ltb, eqb, ltb, when◌then◌else◌, if_keeps, if_true}
use Rattle.laws.proofs.Common.{if_false, clash, and_left, and_right, and-false, and_both}
use mir.Val.{bool_byte}
use lib.Pow.{pow_mono}
use Rattle.word_order.specs.Bits.{bit_of}
use Rattle.word_order.proofs.WordBits.{bit_most}
use Rattle.module_rules.proofs.Types.{Settings, Engine, Progress, Shift, Free, Loaded, Begun, Done}
use Rattle.module_rules.specs.Changes.{with_sdo, with_ss}
use Rattle.module_rules.specs.Settings.{width_of, framed, cke_of, silent, own_clock, ssen_client, unframed_host}
use Rattle.module_rules.specs.Registers.{is_free, low_bits}
use Rattle.module_rules.specs.Loading.{is_begun}
use Rattle.module_rules.specs.Buffers.{empty}
use Rattle.module_rules.specs.Select.{deselected}
use Rattle.module_rules.specs.Finish.{finished}
use Rattle.module_rules.specs.Edge.{word_edges, begun, under_way}
use Rattle.module_rules.proofs.Sizes.{width_least, width_most, width_eight, power_least}
use Rattle.module_invariant.proofs.CallsWhen.{own_not_client}
use Rattle.module_invariant.proofs.Sampling.{sampled_none}
use Rattle.word_rules.specs.declared.Worded.{Worded}
use Rattle.word_rules.specs.Word.{in_progress, current, resting, has_word, idle_first, bits_sampled, bits_left, level_on, word_of}
use Rattle.word_rules.proofs.Closed.{behind, last_sck, last_sdo, word_made, all_levels, remembered, readied}
use Rattle.word_rules.proofs.Values.{left_is}
use Rattle.word_rules.proofs.WordMade.{at}
use Rattle.word_rules.proofs.WordHolds.{active_under, begins, whole_word_lem}
use Rattle.word_begins.specs.Beginning.{between, at_start, levels_first}

-- A word that is not begun has no edge behind it, and nothing received.
unstarted : (s : Settings) (n : Engine) (x : Shift) → is_begun x ≡ false → ((in_progress (begun s n x)).edges ≡ 0) × ((in_progress (begun s n x)).received ≡ 0)
unfolding begun
unstarted s n Free e =
    let P : Shift → Type 0 = λ y. ((in_progress y).edges ≡ 0) × ((in_progress y).received ≡ 0) in
    if_keeps P (silent s) _ _ (λ _. (refl, refl))
    (λ _. if_keeps P (ssen_client s && not (empty n.transmit.count)) _ _ (λ _. (refl, refl)) (λ _. (refl, refl)))
unstarted s n (Loaded word) e = (refl, refl)
unstarted s n (Begun p) e = clash true refl e

-- With no edge behind it all bits are left.
all_left : (s : Settings) (k : ℕ) → k ≡ 0 → bits_left s k ≡ width_of s
all_left s k none = ap (bits_left s) none ∙ left_is s 0 ∙ ap (λ (x : ℕ). width_of s - x) (sampled_none (cke_of s)) ∙ omega arith

-- The levels of SDO.
from_first : (cke sdo : Bool) (w word : ℕ) →
    (when Bool·beq cke (eqb ((0 + 1) % 2) 1) then 0 * 2 + bool_byte sdo else 0) * 2 ^ (w - (when cke then (0 + 1 + 1) / 2 else (0 + 1) / 2))
    + word % 2 ^ (w - (when cke then (0 + 1 + 1) / 2 else (0 + 1) / 2))
    ≡ (when cke then word % 2 ^ (w - 1) + bool_byte sdo * 2 ^ (w - 1) else word % 2 ^ w)
unfolding when◌then◌else◌
from_first true true w word = omega arith
from_first true false w word = omega arith
from_first false sdo w word =
    let whole : w - 0 ≡ w = omega arith in
    ap (λ (k : ℕ). 0 * 2 ^ k + word % 2 ^ k) whole ∙ omega arith

levels_first_lem : (s : Settings) (p : Progress) (sdo : Bool) → p.edges ≡ 0 → all_levels s p sdo ≡ levels_first s p.word sdo
unfolding all_levels behind level_on bits_left bits_sampled levels_first
levels_first_lem s p sdo none =
    ap (λ (k : ℕ). behind s p.word (k + 1) (level_on s k sdo 0)) none ∙ from_first (cke_of s) sdo (width_of s) p.word

-- SCK comes back to where it was, and SDO goes to the lowest bit of the word sent.
same_clock : (k : ℕ) (sck : Bool) → k ≡ 0 → last_sck k sck ≡ sck
unfolding last_sck
same_clock k sck none = ap (λ (j : ℕ). Bool·beq (eqb (j % 2) 0) sck) none ∙ same sck
  where
    same : (b : Bool) → Bool·beq true b ≡ b
    same true = refl
    same false = refl

lowest : (s : Settings) (sent k : ℕ) (sdo : Bool) → k ≡ 0 → last_sdo s sent k sdo ≡ bit_of sent 0
unfolding last_sdo
lowest s sent k sdo none =
    if_true (ltb (k + 1 + bool_byte (cke_of s)) (word_edges s)) _ _ (lt-ltb (k + 1 + bool_byte (cke_of s)) (word_edges s) (omega (arith, none, width_eight s, bit_most (cke_of s))))

-- What is received are the low bits of the caller's word.
all_bits : (s : Settings) (v k received : ℕ) → k ≡ 0 → received ≡ 0 → behind s v k received % 65536 ≡ low_bits s v
unfolding behind
all_bits s v k received none nothing =
    let within : v % 2 ^ width_of s < 65536 = omega (arith, mod-lt v (power_least (width_of s)), pow_mono {i = width_of s} {j = 16} (width_most s)) in
    ap₂ (λ (r j : ℕ). (r * 2 ^ j + v % 2 ^ j) % 65536) nothing (all_left s k none) ∙ omega (arith, within)

-- A module at a word's beginning.
pub record Begins (s : Settings) (n : Engine) (ss : Bool) : Type 0 where
  pub on : s.spien ≡ true
  pub plain : framed s ≡ false
  pub loud : (silent s && is_free n.shift) ≡ false
  pub chosen : deselected s ss ≡ false
  pub heard : (when own_clock s then n.pins.ss else ss) ≡ n.pins.ss
  pub rests : between (at s n) ≡ true

-- Its word call.
abbrev pub first_word : Settings → Engine → ℕ → Worded
first_word s n word =
    record {
      answer = Done;
      count = width_of s;
      levels = levels_first s (current s n).word n.pins.sdo;
      after = at s (finished s (current s n).filler (low_bits s word) (with_sdo (bit_of (current s n).word 0) n));
    }

module _ (s : Settings) (n : Engine) (ss : Bool) (b : Begins s n ss) where
  abbrev p : Progress
  p = current s n

  unbegun : is_begun n.shift ≡ false
  unfolding between
  unbegun = not-true (is_begun n.shift) (and_left (not (is_begun n.shift)) _ b.rests)

  pub none_given : p.edges ≡ 0
  unfolding current
  none_given = (unstarted s n n.shift unbegun).0

  none-received : p.received ≡ 0
  unfolding current
  none-received = (unstarted s n n.shift unbegun).1

  pub short : p.edges < word_edges s
  short = omega (arith, none_given, width_least s)

  pub small : p.received < 65536
  small = omega (arith, none-received)

  at-idle : idle_first s n ≡ false
  unfolding idle_first between
  at-idle = and-false (not (is_begun n.shift)) _ (ap not (and_right (not (is_begun n.shift)) _ b.rests))

  has : has_word (at s n) ss ≡ true
  unfolding has_word resting
  has =
      and_both (s.spien && not (framed s)) _ (and_both s.spien _ b.on (ap not b.plain))
      (and_both (not (deselected s ss || (silent s && is_free n.shift))) _
      (ap₂ (λ (x y : Bool). not (x || y)) b.chosen b.loud) (lt-ltb _ _ short))

  pub under : under_way s (not n.pins.sck) n ≡ Begun p
  unfolding current
  under = active_under s n p b.plain (begins s n n.shift b.loud) at-idle

  ready : readied s ss n ≡ n
  unfolding readied remembered
  ready = if_false (idle_first s n) _ _ at-idle ∙ ap (λ (x : Bool). with_ss x n) b.heard

  pub made : (word : ℕ) → (word_of (at s n) ss word).after ≡ at s (word_made s word p n)
  made word =
      ap (λ (w : Worded). w.after) (whole_word_lem (at s n) ss word has small) ∙ ap (λ (x : Engine). at s (word_made s word p x)) ready

  pub shown : (word : ℕ) → (word_of (at s n) ss word).levels ≡ all_levels s p n.pins.sdo
  shown word = ap (λ (w : Worded). w.levels) (whole_word_lem (at s n) ss word has small)

  pub first_word_lem : (word : ℕ) → word_of (at s n) ss word ≡ first_word s n word
  unfolding word_made
  first_word_lem word =
      whole_word_lem (at s n) ss word has small
      ∙ cc (
        ready,
        all_left s p.edges none_given,
        levels_first_lem s p n.pins.sdo none_given,
        all_bits s word p.edges p.received none_given none-received,
        lowest s p.word p.edges n.pins.sdo none_given,
        same_clock p.edges n.pins.sck none_given,
      )

-- A host with its own clock and a word to send heeds no select level.
pub start_begins : (s : Settings) (n : Engine) (ss : Bool) → at_start (at s n) ≡ true → Begins s n ss
unfolding at_start
start_begins s n ss start =
    let host = and_left (s.spien && unframed_host s) _ start in
    let own = and_left (own_clock s) _ (and_right s.spien _ host) in
    let word = and_right (s.spien && unframed_host s) _ start in
    record {
      on = and_left s.spien _ host;
      plain = not-true (framed s) (and_right (own_clock s) _ (and_right s.spien _ host));
      loud = and-false (silent s) _ (not-true (is_free n.shift) (and_left (not (is_free n.shift)) _ word));
      chosen = ap (λ (b : Bool). b && ss) (own_not_client s own);
      heard = if_true (own_clock s) _ _ own;
      rests = and_right (not (is_free n.shift)) _ word;
    }
