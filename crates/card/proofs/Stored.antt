-- Single numbers that are written into memory, and the card that is then read back.
--     card_read        the card after some writes
--     moved, wrote     writes that leave the head are a step of the engine
--     alike, stays     a step that does the same to this engine, and one that writes nothing
--     both             two steps, one after the other
--     moved_card       the card after a step
--     bit_on, bit_off  a flag in a number
--     bit_of_level     and a level as a number
--     gives_so, gives_not   a call that goes by tests
-- Assumes nothing.
use Rattle.std.specs.Prelude.{◌%◌, ◌≡◌}
use Rattle.laws.proofs.Common.{ℕ, Bool, true, false, refl, List, ◌∙◌, arith, eq-eqb, ne_eqb, length, when◌then◌else◌}
use Rattle.laws.proofs.Common.{if_keeps, clash}
use mir.Val.{bool_byte}
use Rattle.laws.specs.Writes.{Write, writes}
use Rattle.laws.proofs.Stored.{after, Within, within, in_memory, reads_after}
use Rattle.card_rules.specs.Settings.{Shape, shape_of}
use Rattle.card_rules.specs.Card.{Engine, Card, with_engine}
use Rattle.card_rules.specs.Calls.{Answer, Outcome}
use Rattle.card.specs.Memory.{bit_in, head_at, head_in, engine_at, engine_in, place_in, shape_in, card_in, Moves}
use Rattle.card.specs.Answered.{Gives}

abbrev pub card_at : (ℕ → ℕ) → Card
card_at place = record { enabled = (head_at place).enabled; settings = (head_at place).settings; engine = engine_at place }

module _ (w : List ℕ) (xs : List Write) (whole : length w ≡ 40) (fit : Within 40 xs) where
  pub card_read : card_in (writes w xs) ≡ card_at (after (place_in w) xs)
  unfolding head_in engine_in
  card_read = λ i. card_at (λ k. reads_after 40 w xs whole fit k i)

  pub moved : {f : Shape → Engine → Engine} → head_at (after (place_in w) xs) ≡ head_at (place_in w) →
      engine_at (after (place_in w) xs) ≡ f (shape_of (head_at (place_in w)).settings) (engine_at (place_in w)) → Moves f w (writes w xs)
  unfolding head_in engine_in
  moved h n =
      record { head = (λ i. head_at (λ k. reads_after 40 w xs whole fit k i)) ∙ h; engine = (λ i. engine_at (λ k. reads_after 40 w xs whole fit k i)) ∙ n }

pub card_wrote : (w : List ℕ) (xs : List Write) → length w ≡ 40 → within 40 xs ≡ true → card_in (writes w xs) ≡ card_at (after (place_in w) xs)
card_wrote w xs n e = card_read w xs n (in_memory 40 xs e)

pub wrote : {f : Shape → Engine → Engine} (w : List ℕ) (xs : List Write) → length w ≡ 40 → within 40 xs ≡ true →
    head_at (after (place_in w) xs) ≡ head_at (place_in w) →
    engine_at (after (place_in w) xs) ≡ f (shape_of (head_at (place_in w)).settings) (engine_at (place_in w)) → Moves f w (writes w xs)
wrote w xs n e h k = moved w xs n (in_memory 40 xs e) h k

-- A step that does the same to this engine, and one that writes nothing.
pub alike : {f g : Shape → Engine → Engine} {a b : List ℕ} → Moves f a b → f (shape_in a) (engine_in a) ≡ g (shape_in a) (engine_in a) →
    Moves g a b
alike x e = record { head = x.head; engine = x.engine ∙ e }

pub stays : {g : Shape → Engine → Engine} {a : List ℕ} → engine_in a ≡ g (shape_in a) (engine_in a) → Moves g a a
stays e = record { head = refl; engine = e }

-- Two steps, one after the other.
pub both : {f g : Shape → Engine → Engine} {a b c : List ℕ} → Moves f a b → Moves g b c → Moves (λ s n. g s (f s n)) a c
both {g = g} x y =
    record { head = y.head ∙ x.head; engine = y.engine ∙ (λ i. g (shape_of (x.head i).settings) (x.engine i)) }

-- The card after a step has the engine that the step makes.
pub moved_card : {f : Shape → Engine → Engine} {a b : List ℕ} → Moves f a b →
    card_in b ≡ with_engine (f (shape_in a) (engine_in a)) (card_in a)
moved_card m = λ i. record { enabled = (m.head i).enabled; settings = (m.head i).settings; engine = m.engine i }

-- A flag in a number.
pub bit_on : (x : ℕ) → (x % 2 ≡ 0 → ⊥) → bit_in x ≡ true
unfolding bit_in
bit_on x h = eq-eqb (x % 2) 1 (omega arith)

pub bit_off : (x : ℕ) → x % 2 ≡ 0 → bit_in x ≡ false
unfolding bit_in
bit_off x h = ne_eqb (x % 2) 1 (λ e. omega arith)

-- A level as a number is a flag.
pub bit_of_level : (b : Bool) → bit_in (bool_byte b) ≡ b
unfolding bit_in
bit_of_level true = refl
bit_of_level false = refl

-- A call that goes by tests.
module _ {a : Answer} {before later : List ℕ} where
  pub gives_so : (test : Bool) (x y : Outcome) → test ≡ true → Gives x a before later → Gives (when test then x else y) a before later
  gives_so test x y e h = if_keeps (λ (o : Outcome). Gives o a before later) test x y (λ _. h) (λ f. clash test e f)

  pub gives_not : (test : Bool) (x y : Outcome) → test ≡ false → Gives y a before later → Gives (when test then x else y) a before later
  gives_not test x y e h = if_keeps (λ (o : Outcome). Gives o a before later) test x y (λ f. clash test f e) (λ _. h)
