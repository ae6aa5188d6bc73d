-- The calls on a card in memory, by the numbers that they find and write: each law is one way through a call.
-- Assumes nothing.
use Rattle.std.specs.Prelude.{◌+◌, ◌*◌, ◌/◌, ◌%◌, ◌<◌, ◌&&◌, ◌||◌, ◌∷◌, ◌++◌, ◌≡◌, Option, Some, None, Result, Ok, Err}
use Rattle.std.specs.Option.{ok_or}
use Rattle.std.specs.Result.{MatchResult, IsErrAnd}
use Rattle.std.proofs.lemmas.Result.{err_from_is_err_and}
use Rattle.laws.proofs.Common.{ℕ, Bool, true, false, not, List, []}
use Rattle.laws.proofs.Common.{refl, sym, ap, subst, ◌∙◌, arith, eqb-true, eqb, length, set, when◌then◌else◌}
use Rattle.laws.proofs.Common.{if_keeps, and_left, and_right}
use Rattle.ring.specs.Ring.{contents}
use Rattle.card_rules.specs.Settings.{Protocol, named, Settings, shape_of}
use Rattle.card_rules.specs.Card.{Card, with_waiting, with_engine, emptied}
use Rattle.card_rules.specs.Edge.{is_full}
use Rattle.card_rules.specs.Calls.{Refusal, is_disabled, is_enabled, transmit_full, receive_empty, not_named, Answer, refused, done, Outcome, refuse, doing, resting_pins, set_protocol_of, set_length_of, enable_of, disable_of, sample_of, write_of, read_from, read_of, clear_underrun_of, clear_overflow_of}
use Rattle.card.specs.Memory.{bit_in, byte_in, protocol_in, bits_in, frame_in, length_number, settings_from, count_in, samples_at, engine_in, head_in, place_in, card_in}
use Rattle.laws.specs.Writes.{at}
use Rattle.card.specs.declared.Refusal.{Refusal as Why}
use Rattle.card.specs.declared.Refusal.TheVariants.{TransmitFull, ReceiveEmpty}
use Rattle.card.specs.declared.Full.{Full}
use Rattle.card.specs.Rings.{Pushes, Pops}
use Rattle.card.specs.Answered.{why_of, done_in, sample_in, Gives}
use Rattle.card.proofs.Stored.{card_wrote, bit_on, bit_off, moved_card, gives_so, gives_not}

-- A refusal leaves every number.
pub refusing : (why : Refusal) (w : List ℕ) → Gives (refuse why (card_in w)) (refused why) w w
refusing why w = record { answer = refl; card = refl; untouched = λ _ f. refl }

-- What is done is not refused.
pub done_with : {m : Card} {w later : List ℕ} → card_in later ≡ m → Gives (doing m) done w later
done_with e = record { answer = refl; card = e; untouched = λ _ f. cc }

-- What `?` answers where a test refuses.
pub exits : {o : Outcome} {w later : List ℕ} {given why : Why} (answer : Result (Unit {0}) Why) → IsErrAnd answer (λ e. e ≡ given) → given ≡ why →
    Gives o (refused (why_of why)) w later → Gives o (done_in answer) w later
exits answer is same g = let p = err_from_is_err_and answer is in rw (p.1, p.2, same) g

module _ (w : List ℕ) where
  -- Enabled or not.
  pub on_unless : (place_in w 0 % 2 ≡ 0 → ⊥) → (head_in w).enabled ≡ true
  unfolding head_in
  on_unless e = bit_on (place_in w 0) e

  pub off_if : place_in w 0 % 2 ≡ 0 → (head_in w).enabled ≡ false
  unfolding head_in
  off_if e = bit_off (place_in w 0) e

  -- The flags.
  pub underrun_cleared : length w ≡ 40 → card_in (set w 11 0) ≡ (clear_underrun_of (card_in w)).after
  unfolding when◌then◌else◌ bit_in samples_at head_in engine_in clear_underrun_of
  underrun_cleared n = card_wrote w (at 11 0 ∷ []) n refl

  pub overflow_cleared : length w ≡ 40 → card_in (set w 12 0) ≡ (clear_overflow_of (card_in w)).after
  unfolding when◌then◌else◌ bit_in samples_at head_in engine_in clear_overflow_of
  overflow_cleared n = card_wrote w (at 12 0 ∷ []) n refl

  -- Settings while enabled.
  pub protocol_refused : (p : Protocol) → (head_in w).enabled ≡ true → Gives (set_protocol_of (card_in w) p) (refused is_enabled) w w
  unfolding set_protocol_of
  protocol_refused p e = gives_so (head_in w).enabled _ _ e (refusing is_enabled w)

  pub length_refused : (bits frame : ℕ) → (head_in w).enabled ≡ true → Gives (set_length_of (card_in w) bits frame) (refused is_enabled) w w
  unfolding set_length_of
  length_refused bits frame e = gives_so (head_in w).enabled _ _ e (refusing is_enabled w)

  -- Enabling what is enabled, and disabling what is disabled.
  pub enabled_already : (place_in w 0 % 2 ≡ 0 → ⊥) → Gives (enable_of (card_in w)) done w w
  unfolding enable_of
  enabled_already e = gives_so (head_in w).enabled _ _ (on_unless e) (done_with refl)

  pub disabled_already : (place_in w 0 % 2 ≡ 1 → ⊥) → Gives (disable_of (card_in w)) done w w
  unfolding disable_of
  disabled_already e = gives_not (head_in w).enabled _ _ (off_if (omega arith)) (done_with refl)

  -- Samples of a disabled card.
  pub write_disabled : (v : ℕ) → (head_in w).enabled ≡ false → Gives (write_of (card_in w) v) (refused is_disabled) w w
  unfolding write_of
  write_disabled v e = gives_so (not (head_in w).enabled) _ _ (ap not e) (refusing is_disabled w)

  pub read_disabled : (head_in w).enabled ≡ false → Gives (read_of (card_in w)) (refused is_disabled) w w
  unfolding read_of
  read_disabled e = gives_so (not (head_in w).enabled) _ _ (ap not e) (refusing is_disabled w)

  -- Samples of an enabled one, by the rings.
  pub write_pushed : (v : ℕ) (pushed : Result (Unit {0}) Full) (answer : Result (Unit {0}) Why) (Says : Full → Why → Type 0)
      {sample : ℕ} {later : List ℕ} →
      (head_in w).enabled ≡ true → sample ≡ sample_of (bits_in (place_in w 1)) v → Pushes 0 sample w pushed later →
      ((full : Full) (why : Why) → Says full why → why ≡ TransmitFull) →
      MatchResult pushed (λ x. answer ≡ Ok x) (λ full. IsErrAnd answer (Says full)) → Gives (write_of (card_in w) v) (done_in answer) w later
  unfolding write_of head_in settings_from
  write_pushed v (Ok x) answer Says on same (room, m) says is =
      rw is
      (gives_not (not (head_in w).enabled) _ _ (ap not on)
      (gives_not (is_full (engine_in w).waiting) _ _ room
      (done_with
      (moved_card m ∙ ap (λ (x : ℕ). with_engine (with_waiting ((engine_in w).waiting ++ (x ∷ [])) (engine_in w)) (card_in w)) same))))
  write_pushed v (Err full) answer Says on same (all, stays) says is =
      let p = err_from_is_err_and answer is in
      rw (p.1, says full p.0 p.2, stays)
      (gives_not (not (head_in w).enabled) _ _ (ap not on)
      (gives_so (is_full (engine_in w).waiting) _ _ all (refusing transmit_full w)))

  -- A read by what is unread.
  read_by : (unread : List ℕ) {a : Answer} {later : List ℕ} → (head_in w).enabled ≡ true → (engine_in w).unread ≡ unread →
      Gives (read_from (card_in w) unread) a w later → Gives (read_of (card_in w)) a w later
  unfolding read_of
  read_by unread {a = a} {later = later} on is g =
      gives_not (not (head_in w).enabled) _ _ (ap not on)
      (subst (λ (q : List ℕ). Gives (read_from (card_in w) q) a w later) (sym is) g)

  pub read_popped : (found : Option ℕ) {later : List ℕ} → (head_in w).enabled ≡ true → Pops 1 w found later →
      Gives (read_of (card_in w)) (sample_in (ok_or found ReceiveEmpty)) w later
  read_popped (Some sample) on (rest, some, m) =
      read_by (sample ∷ rest) on some (record { answer = refl; card = moved_card m; untouched = λ _ f. cc })
  read_popped None on (none, same) = rw same (read_by [] on none (refusing receive_empty w))

-- The settings in a number.
pub protocol_low : (x y : ℕ) → x % 4 ≡ y % 4 → protocol_in x ≡ protocol_in y
unfolding protocol_in
protocol_low x y e = rw e

length_high : (x y : ℕ) → x / 4 % 4 ≡ y / 4 % 4 → (bits_in x ≡ bits_in y) × (frame_in x ≡ frame_in y)
unfolding bits_in frame_in
length_high x y e = (rw e, rw e)

-- A card with other settings.
abbrev set_to : List ℕ → Settings → Card
set_to w s = record { enabled = (head_in w).enabled; settings = s; engine = engine_in w }

settings_read : (w : List ℕ) → length w ≡ 40 → (x : ℕ) → card_in (set w 1 x) ≡ set_to w (settings_from x)
unfolding when◌then◌else◌ bit_in samples_at head_in engine_in
settings_read w n x = card_wrote w (at 1 x ∷ []) n refl

pub protocol_done : (w : List ℕ) (p : ℕ) → length w ≡ 40 → (head_in w).enabled ≡ false →
    Gives (set_protocol_of (card_in w) (protocol_in p)) done w (set w 1 (place_in w 1 / 4 % 4 * 4 + p % 4))
unfolding set_protocol_of head_in settings_from
protocol_done w p n off =
    let x : ℕ = place_in w 1 / 4 % 4 * 4 + p % 4 in
    let l = length_high x (place_in w 1) (omega arith) in
    gives_not (head_in w).enabled _ _ off
    (done_with
    (settings_read w n x
    ∙ (λ i. set_to w (record { protocol = protocol_low x p (omega arith) i; bits = l.0 i; frame = l.1 i }))))

-- The number of a length and frame: none if they are not named, else one below 4, and settings with it have them.
data Length (bits frame : ℕ) : Option ℕ → Type 0 where
  unnamed : named bits frame ≡ false → Length bits frame None
  numbered : {number : ℕ} → number < 4 → named bits frame ≡ true →
      ((x : ℕ) → x / 4 % 4 ≡ number → (bits_in x ≡ bits) × (frame_in x ≡ frame)) → Length bits frame (Some number)

is_named : (bits frame number b f : ℕ) → number < 4 → eqb bits b ≡ true → eqb frame f ≡ true → named b f ≡ true →
    ((x : ℕ) → x / 4 % 4 ≡ number → (bits_in x ≡ b) × (frame_in x ≡ f)) → Length bits frame (Some number)
is_named bits frame number b f small sb sf ok is = rw (eqb-true bits b sb, eqb-true frame f sf) (numbered small ok is)

none_of : (a b c f g : Bool) → a ≡ false → b ≡ false → c ≡ false → ((a && f) || ((a || (b || c)) && g)) ≡ false
none_of a b c f g x y z = rw (x, y, z)

no_frame : (a b g : Bool) → a ≡ false → g ≡ false → (a || (b && g)) ≡ false
no_frame a true g x z = rw (x, z)
no_frame a false g x z = rw x

length_is : (bits frame : ℕ) → Length bits frame (length_number bits frame)
unfolding length_number named bits_in frame_in when◌then◌else◌
length_is bits frame =
    if_keeps (Length bits frame) (eqb bits 16 && eqb frame 32) _ _
    (λ e. is_named bits frame 0 16 32 (omega arith) (and_left (eqb bits 16) _ e) (and_right (eqb bits 16) _ e) refl (λ x h. length_high x 0 h))
    (λ short.
    if_keeps (Length bits frame) (eqb frame 64) _ _
    (λ long.
    if_keeps (Length bits frame) (eqb bits 16) _ _
    (λ e. is_named bits frame 1 16 64 (omega arith) e long refl (λ x h. length_high x 4 h))
    (λ no16.
    if_keeps (Length bits frame) (eqb bits 24) _ _
    (λ e. is_named bits frame 2 24 64 (omega arith) e long refl (λ x h. length_high x 8 h))
    (λ no24.
    if_keeps (Length bits frame) (eqb bits 32) _ _
    (λ e. is_named bits frame 3 32 64 (omega arith) e long refl (λ x h. length_high x 12 h))
    (λ no32. unnamed (none_of (eqb bits 16) (eqb bits 24) (eqb bits 32) (eqb frame 32) (eqb frame 64) no16 no24 no32)))))
    (λ no64. unnamed (no_frame (eqb bits 16 && eqb frame 32) (eqb bits 16 || (eqb bits 24 || eqb bits 32)) (eqb frame 64) short no64)))

pub length_unnamed : (w : List ℕ) (bits frame : ℕ) → (head_in w).enabled ≡ false → None ≡ length_number bits frame →
    Gives (set_length_of (card_in w) bits frame) (refused not_named) w w
unfolding set_length_of
length_unnamed w bits frame off none =
    gives_not (head_in w).enabled _ _ off
    (gives_not (named bits frame) _ _ (go (length_is bits frame) (sym none)) (refusing not_named w))
  where
    go : {number : Option ℕ} → Length bits frame number → number ≡ None → named bits frame ≡ false
    go (unnamed e) f = e
    go (numbered small ok is) f = cc

pub length_small : (bits frame : ℕ) {number : ℕ} → Some number ≡ length_number bits frame → number < 4
length_small bits frame {number = number} e = go (length_is bits frame) (sym e)
  where
    go : {found : Option ℕ} → Length bits frame found → found ≡ Some number → number < 4
    go (unnamed e) f = cc
    go (numbered {number = found} small ok is) f = let same : found ≡ number = cc in omega arith

pub length_done : (w : List ℕ) (bits frame number : ℕ) → length w ≡ 40 → (head_in w).enabled ≡ false →
    Some number ≡ length_number bits frame → Gives (set_length_of (card_in w) bits frame) done w (set w 1 (number * 4 + place_in w 1 % 4))
unfolding set_length_of head_in settings_from
length_done w bits frame number n off same = go (length_is bits frame) (sym same)
  where
    go : {found : Option ℕ} → Length bits frame found → found ≡ Some number →
        Gives (set_length_of (card_in w) bits frame) done w (set w 1 (number * 4 + place_in w 1 % 4))
    go (unnamed e) f = cc
    go (numbered {number = found} small ok is) f =
        let x : ℕ = number * 4 + place_in w 1 % 4 in
        let one : found ≡ number = cc in
        let high : x / 4 % 4 ≡ found = omega arith in
        let l = is x high in
        let low : x % 4 ≡ place_in w 1 % 4 = omega arith in
        gives_not (head_in w).enabled _ _ off
        (gives_so (named bits frame) _ _ ok
        (done_with
        (settings_read w n x
        ∙ (λ i. set_to w (record { protocol = protocol_low x (place_in w 1) low i; bits = l.0 i; frame = l.1 i })))))

-- Enabling and disabling.
module _ (w : List ℕ) (n : length w ≡ 40) where
  switched_on_lem : (rest : ℕ) →
      card_in (set (set (set (set (set (set (set (set w 0 1) 2 0) 3 0) 8 rest) 9 rest) 10 0) 14 0) 16 0)
      ≡ record { enabled = true; settings = (head_in w).settings; engine = emptied (resting_pins (bit_in rest)) (engine_in w).flags }
  unfolding when◌then◌else◌ bit_in byte_in count_in contents samples_at head_in engine_in
  switched_on_lem rest =
      card_wrote w (at 0 1 ∷ at 2 0 ∷ at 3 0 ∷ at 8 rest ∷ at 9 rest ∷ at 10 0 ∷ at 14 0 ∷ at 16 0 ∷ []) n refl

  pub enable_done : (rest : ℕ) → place_in w 0 % 2 ≡ 0 → bit_in rest ≡ (shape_of (settings_from (place_in w 1))).rest →
      Gives (enable_of (card_in w)) done w
      (set (set (set (set (set (set (set (set w 0 1) 2 0) 3 0) 8 rest) 9 rest) 10 0) 14 0) 16 0)
  unfolding enable_of head_in
  enable_done rest off e =
      gives_not (head_in w).enabled _ _ (off_if w off)
      (done_with
      (switched_on_lem rest
      ∙ (λ i. record { enabled = true; settings = (head_in w).settings; engine = emptied (resting_pins (e i)) (engine_in w).flags })))

  switched-off : card_in (set (set (set (set (set w 0 0) 2 0) 3 0) 14 0) 16 0)
      ≡ record { enabled = false; settings = (head_in w).settings; engine = emptied (engine_in w).pins (engine_in w).flags }
  unfolding when◌then◌else◌ bit_in byte_in count_in contents samples_at head_in engine_in
  switched-off = card_wrote w (at 0 0 ∷ at 2 0 ∷ at 3 0 ∷ at 14 0 ∷ at 16 0 ∷ []) n refl

  pub disable_done : place_in w 0 % 2 ≡ 1 →
      Gives (disable_of (card_in w)) done w (set (set (set (set (set w 0 0) 2 0) 3 0) 14 0) 16 0)
  unfolding disable_of head_in
  disable_done on =
      gives_so (head_in w).enabled _ _ (on_unless w (λ f. omega arith))
      (done_with switched-off)
