-- A word call in memory, by what its code has looked up and stored.
--     left_least                a bit is left where the next edge samples
--     taken_level, kept_level   the levels of SDO, if that edge samples and if not
--     sampled_sum               the bits that are sampled
--     word_made_lem                 the values stored are those of the closed form
--     speaks, speaks_as         what is told then
--     has_word_is, short_here   whether there is a word, and that it is short of its last edge
--     stepped_so                one step
--     told_so                   the number that is told
--     next_is                   the word that would go out next
--     owes_some                 the edges owed
-- Assumes nothing.
use Rattle.std.specs.Prelude.{◌+◌, ◌*◌, ◌-◌, ◌/◌, ◌%◌, ◌^◌, ◌<◌, ◌≤◌, ◌&&◌, ◌≡◌}
use Rattle.laws.proofs.Common.{ℕ, Bool, true, false, not, List, refl, sym}
use Rattle.laws.proofs.Common.{ap, ◌∙◌, arith, ltb, when◌then◌else◌, if_keeps, if_true, if_false, if_not, so}
use mir.Val.{bool_byte}
use Rattle.laws.proofs.Keeps.{if_and}
use Rattle.module_rules.proofs.Types.{Settings, Engine, Module, Progress, Answer, Done, Outcome}
use Rattle.module_rules.specs.Changes.{with_sck, with_sdo}
use Rattle.word_order.specs.Bits.{bit_of}
use Rattle.module_rules.specs.Settings.{width_of, framed, silent, cke_of, own_clock}
use Rattle.module_rules.specs.Registers.{is_free}
use Rattle.module_rules.specs.Bits.{samples}
use Rattle.module_rules.specs.Finish.{finished}
use Rattle.module_rules.specs.Edge.{word_edges, clocked}
use Rattle.word_rules.specs.declared.Worded.{Worded}
use Rattle.module_rules.specs.Calls.{clock_step_of, perform_of}
use Rattle.word_rules.specs.Word.{bits_sampled, current, resting, has_word, idle_first, bits_left, level_on, step_level, one_step, word_of, sends_next, words_in, edges_in, edges_owed}
use Rattle.word_rules.proofs.Closed.{behind, last_sck, last_sdo, all_levels, word_made, remembered, readied}
use Rattle.word_rules.proofs.Values.{fewer, as_many}
use Rattle.word_rules.proofs.WordHolds.{started, whole_word_lem}
use Rattle.module_memory.specs.Memory.{settings_in, engine_in, module_in}
use Rattle.module_answers.specs.Answered.{untouching, Answers}
use Rattle.word_calls.specs.Speaking.{Speaks, word_number, WordTells, next_number}

module _ (s : Settings) (p : Progress) (left : ℕ) (is : left ≡ bits_left s p.edges) (short : p.edges < word_edges s) (sdo : Bool) where
  pub left_least : samples (cke_of s) (p.edges + 1) ≡ true → 1 ≤ left
  left_least e = let one = fewer s p.edges short e in omega arith

  pub taken_level : samples (cke_of s) (p.edges + 1) ≡ true →
      bool_byte sdo * 2 ^ (left - 1) + p.word % 2 ^ (left - 1) ≡ all_levels s p sdo
  unfolding all_levels behind level_on
  taken_level e =
      let one = fewer s p.edges short e in
      let fewer_left : left - 1 ≡ bits_left s (p.edges + 1) = omega arith in
      rw (fewer_left, if_true (samples (cke_of s) (p.edges + 1)) _ _ e) (omega arith)

  pub kept_level : samples (cke_of s) (p.edges + 1) ≡ false → 0 * 2 ^ left + p.word % 2 ^ left ≡ all_levels s p sdo
  unfolding all_levels behind level_on
  kept_level e = rw (is, ← as_many s p.edges short e, if_false (samples (cke_of s) (p.edges + 1)) _ _ e)

-- How many bits are sampled, without a choice.
pub sampled_sum : (cke : Bool) (k : ℕ) → (k + bool_byte cke) / 2 ≡ bits_sampled cke k
unfolding bits_sampled when◌then◌else◌
sampled_sum true k = refl
sampled_sum false k = omega arith

-- SDO stands where the word begins.
sdo_stands : (s : Settings) (ss : Bool) (n : Engine) → (readied s ss n).pins.sdo ≡ n.pins.sdo
unfolding readied remembered clocked
sdo_stands s ss n =
    if_keeps (λ (x : Engine). x.pins.sdo ≡ n.pins.sdo) (idle_first s n) _ _ (λ _. refl) (λ _. refl)

module _ (s : Settings) (n : Engine) (ss : Bool) (word : ℕ) where
  abbrev q : Progress
  q = current s n

  pub word_made_lem : {p : Progress} {r left shown : ℕ} {d c sdo : Bool} → has_word (record { settings = s; engine = n }) ss ≡ true → p ≡ q →
      p.received < 65536 → left ≡ bits_left s p.edges → shown ≡ all_levels s p sdo → sdo ≡ n.pins.sdo →
      r ≡ (p.received * 2 ^ left + word % 2 ^ left) % 65536 → d ≡ last_sdo s p.word p.edges sdo →
      c ≡ last_sck p.edges (readied s ss n).pins.sck →
      record {
        answer = Done;
        count = left;
        levels = shown;
        after = record { settings = s; engine = finished s p.filler r (with_sdo d (with_sck c (readied s ss n))) };
      }
      ≡ word_of (record { settings = s; engine = n }) ss word
  unfolding word_made behind
  word_made_lem {p} {r} {left} {shown} {d} {c} {sdo} has is small few show level got last turn =
      cc (sdo_stands s ss n, whole_word_lem (record { settings = s; engine = n }) ss word has (rw is at small))

-- What is told, of a definition that is equal to another too.
pub speaks_as : {o u : Worded} {a : Answer} {n v : ℕ} {before after : List ℕ} → u ≡ o → Speaks u a n v before after → Speaks o a n v before after
speaks_as e h =
    record {
      answer = h.answer ∙ ap (λ (o : Worded). o.answer) e;
      count = h.count ∙ ap (λ (o : Worded). o.count) e;
      levels = h.levels ∙ ap (λ (o : Worded). o.levels) e;
      holds = h.holds ∙ ap (λ (o : Worded). o.after) e;
      untouched = h.untouched;
    }

pub speaks : {o : Worded} {a : Answer} {n v : ℕ} {m : Module} {before after : List ℕ} →
    record { answer = a; count = n; levels = v; after = m } ≡ o → module_in after ≡ m → (untouching a ≡ true → after ≡ before) →
    Speaks o a n v before after
speaks e holds untouched = speaks_as e (record { answer = refl; count = refl; levels = refl; holds = holds; untouched = untouched })

one_by_one : (on frames rests short : Bool) →
    (when not on then false else when frames then false else when rests then false else short)
    ≡ ((on && not frames) && (not rests && short))
unfolding when◌then◌else◌
one_by_one true true rests short = refl
one_by_one true false true short = refl
one_by_one true false false short = refl
one_by_one false frames rests short = refl

-- Whether there is a word, test by test.
module _ (m : Module) (ss : Bool) where
  pub has_word_is : {r : Bool} →
      r
      ≡ (when not m.settings.spien then false
      else when framed m.settings then false
      else when resting m.settings ss m.engine then false
      else ltb (current m.settings m.engine).edges (word_edges m.settings)) →
      r ≡ has_word m ss
  unfolding has_word
  has_word_is h = h ∙ one_by_one m.settings.spien (framed m.settings) (resting m.settings ss m.engine) _

  -- The word is short of its last edge.
  pub short_here : {t : Settings} {p : Progress} → has_word m ss ≡ true → t ≡ m.settings → p ≡ current m.settings m.engine →
      p.edges < word_edges t
  short_here has same is = rw (same, is) (started m ss has).short

-- One step.
pub stepped_so : {w after : List ℕ} {a : Answer} {count shown : ℕ} (ss : Bool) (word : ℕ) →
    Answers (clock_step_of (module_in w) (step_level (module_in w) ss) (bit_of word 0) ss) a w after →
    count ≡ bool_byte ((settings_in w).spien && framed (settings_in w)) →
    shown ≡ bool_byte (((settings_in w).spien && framed (settings_in w)) && (engine_in w).pins.sdo) →
    Speaks (one_step (module_in w) ss word) a count shown w after
unfolding one_step perform_of
stepped_so ss word h few level =
    record {
      answer = ap (λ (o : Outcome). o.answer) h.outcome;
      count = few;
      levels = level;
      holds = ap (λ (o : Outcome). o.after) h.outcome;
      untouched = h.untouched;
    }

-- A number is told for what is spoken.
pub told_so : {o : Worded} {a : Answer} {n v r : ℕ} {before after : List ℕ} → Speaks o a n v before after → r ≡ word_number a n v →
    WordTells o r before after
told_so h e =
    record {
      number = e ∙ (λ i. word_number (h.answer i) (h.count i) (h.levels i));
      holds = h.holds;
      untouched = λ t. h.untouched (ap untouching h.answer ∙ t);
    }

-- The word that would go out next, test by test.
one_of_three : (on rests filler : Bool) (x y : ℕ) →
    (when not on then y else when rests then y else when filler then y else x) ≡ (when on && (not rests && not filler) then x else y)
one_of_three on rests filler x y = sym (simp (if_and, if_not))

pub next_is : (m : Module) {r : ℕ} →
    r
    ≡ (when not m.settings.spien then 0
    else when silent m.settings && is_free m.engine.shift then 0
    else when (current m.settings m.engine).filler then 0
    else 65536 + (current m.settings m.engine).word) →
    r ≡ next_number m
unfolding next_number sends_next
next_is m h =
    h ∙ one_of_three m.settings.spien (silent m.settings && is_free m.engine.shift)
    (current m.settings m.engine).filler _ 0

-- The edges owed, if any are.
pub owes_some : (m : Module) {width words given : ℕ} →
    (m.settings.spien && (own_clock m.settings && not (framed m.settings))) ≡ true →
    width ≡ width_of m.settings → words ≡ words_in m.engine.shift + m.engine.transmit.count →
    given ≡ edges_in m.engine.shift →
    2 * width * words - given ≡ edges_owed m
unfolding edges_owed
owes_some m host bits all gone = so _ _ _ host (rw (bits, all, gone))
