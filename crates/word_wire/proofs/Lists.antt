-- Lists of words that pass.
--     arriving_last      one word more arrives
--     Room, loses_is     a port from which nothing is read loses a word exactly if as many came before as there was room for
--     departing_next, departing_filler   one word or filler more departs
--     departing_left     the words left behind the departures
--     kept_behind        the words kept
-- Assumes nothing.
use Rattle.std.specs.Prelude.{◌+◌, ◌≤◌, ◌<◌, ◌&&◌, ◌||◌, ◌∷◌, ◌++◌, ◌≡◌}
use Rattle.laws.proofs.Common.{ℕ, zero, suc, Bool, true, false, List, [], refl}
use Rattle.laws.proofs.Common.{sym, ap, ap₂, ◌∙◌, arith, leb-true, leb-false, le-leb, lt-leb, ltb, leb, length, length-append}
use Rattle.laws.proofs.Common.{take, drop, when◌then◌else◌, by_test}
use lib.Dec.{leb-zero, leb-suc-zero, leb-suc-suc}
use Rattle.word_order.specs.Ledger.{words_of, Passed, Ledger, Terms, unmarked, kept, marked_in, ends, loses}
use Rattle.word_wire.specs.Wire.{arriving, departing}

pub words_last : (l : List Passed) (a : Passed) → words_of (l ++ (a ∷ [])) ≡ words_of l ++ (a.word ∷ [])
words_last [] a = refl
words_last (b ∷ l) a = ap (λ (q : List ℕ). b.word ∷ q) (words_last l a)

pub words_departing : (ws : List ℕ) → words_of (departing (length ws) ws) ≡ ws
words_departing [] = refl
words_departing (w ∷ ws) = ap (λ (q : List ℕ). w ∷ q) (words_departing ws)

-- One word more arrives: it is lost exactly if as many came before as there was room for.
pub arriving_last : (room : ℕ) (ws : List ℕ) (w : ℕ) (lost : Bool) → lost ≡ leb room (length ws) →
    arriving room (ws ++ (w ∷ [])) ≡ arriving room ws ++ (record { word = w; marked = lost } ∷ [])
arriving_last zero [] w lost e = ap (λ (b : Bool). let a : Passed = record { word = w; marked = b } in a ∷ []) (sym e)
arriving_last (suc room) [] w lost e =
    ap (λ (b : Bool). let a : Passed = record { word = w; marked = b } in a ∷ []) (sym (e ∙ leb-suc-zero room))
arriving_last zero (v ∷ ws) w lost e =
    ap (λ (q : List Passed). record { word = v; marked = true } ∷ q)
    (arriving_last zero ws w lost (e ∙ leb-zero (suc (length ws)) ∙ sym (leb-zero (length ws))))
arriving_last (suc room) (v ∷ ws) w lost e =
    ap (λ (q : List Passed). record { word = v; marked = false } ∷ q)
    (arriving_last room ws w lost (e ∙ leb-suc-suc room (length ws)))

-- The unmarked words of two lists, and the marks.
one_more_lem : (b : Bool) (w : ℕ) (p q r : List ℕ) → p ≡ q ++ r → (when b then p else w ∷ p) ≡ (when b then q else w ∷ q) ++ r
unfolding when◌then◌else◌
one_more_lem true w p q r e = e
one_more_lem false w p q r e = ap (λ (k : List ℕ). w ∷ k) e

unmarked_append : (l k : List Passed) → unmarked (l ++ k) ≡ unmarked l ++ unmarked k
unmarked_append [] k = refl
unmarked_append (a ∷ l) k = one_more_lem a.marked a.word _ _ _ (unmarked_append l k)

marked_append : (l k : List Passed) → marked_in (l ++ k) ≡ marked_in l + marked_in k
marked_append [] k = omega arith
marked_append (a ∷ l) k = let ih : marked_in (l ++ k) ≡ marked_in l + marked_in k = marked_append l k in omega arith

-- The words kept of those that arrive are as many as there is room for.
kept_words : (room : ℕ) (ws : List ℕ) → unmarked (arriving room ws) ≡ take room ws
unfolding when◌then◌else◌
kept_words zero [] = refl
kept_words (suc room) [] = refl
kept_words zero (w ∷ ws) = kept_words zero ws
kept_words (suc room) (w ∷ ws) = ap (λ (q : List ℕ). w ∷ q) (kept_words room ws)

pub kept_behind : (before : List Passed) (room : ℕ) (ws : List ℕ) →
    unmarked (before ++ arriving room ws) ≡ unmarked before ++ take room ws
kept_behind before room ws =
    unmarked_append before (arriving room ws) ∙ ap (λ (q : List ℕ). unmarked before ++ q) (kept_words room ws)

-- With room for all none is marked; with room for fewer as many are kept.
fewer_kept : (room : ℕ) (ws : List ℕ) → length ws < room → (length (take room ws) ≡ length ws) × (marked_in (arriving room ws) ≡ 0)
fewer_kept zero [] h = (refl, refl)
fewer_kept (suc room) [] h = (refl, refl)
fewer_kept zero (w ∷ ws) h = absurd (omega (arith, h))
fewer_kept (suc room) (w ∷ ws) h = let k = fewer_kept room ws (omega (arith, h)) in (ap suc k.0, omega (arith, k.1))

room_kept : (room : ℕ) (ws : List ℕ) → room ≤ length ws → length (take room ws) ≡ room
room_kept zero ws h = refl
room_kept (suc room) [] h = absurd (omega (arith, h))
room_kept (suc room) (w ∷ ws) h = ap suc (room_kept room ws (omega (arith, h)))

-- What there is room for in a buffer that holds what is unmarked of `before`: none if a loss there has ended reception.
pub record Room (t : Terms) (before : List Passed) (room : ℕ) : Type 0 where
  pub left : t.depth ≡ length (unmarked before) + room
  pub ended : (ends t.policy && ltb 0 (marked_in before)) ≡ true → room ≡ 0

-- A word is lost exactly if as many arrived as there was room for.
pub loses_is : (t : Terms) (l : Ledger) (before : List Passed) (room : ℕ) (ws : List ℕ) → Room t before room → l.read ≡ [] →
    l.arrivals ≡ before ++ arriving room ws → loses t l ≡ leb room (length ws)
unfolding loses
loses_is t l before room ws r none all =
    let read : length l.read ≡ 0 = ap length none in
    let held : length (kept l) ≡ length (unmarked before) + length (take room ws) =
    ap length (ap unmarked all ∙ kept_behind before room ws) ∙ length-append (unmarked before) (take room ws) in
    by_test (leb room (length ws))
    (λ e.
    ap (λ (b : Bool). b || (ends t.policy && ltb 0 (marked_in l.arrivals)))
    (le-leb (length l.read + t.depth) (length (kept l))
    (omega (arith, read, held, r.left, room_kept room ws (leb-true room (length ws) e))))
    ∙ sym e)
    (λ e.
    let fewer : length ws < room = leb-false room (length ws) e in
    let k = fewer_kept room ws fewer in
    let same : marked_in l.arrivals ≡ marked_in before =
    ap marked_in all ∙ marked_append before (arriving room ws) ∙ omega (arith, k.1) in
    ap₂ (λ (b c : Bool). b || c)
    (lt-leb (length l.read + t.depth) (length (kept l)) (omega (arith, read, held, r.left, k.0)))
    (by_test (ends t.policy && ltb 0 (marked_in before))
    (λ over. absurd (omega (arith, r.ended over, fewer)))
    (λ on. ap (λ (n : ℕ). ends t.policy && ltb 0 n) same ∙ on))
    ∙ sym e)

-- Departures: the next word, and the next filler.
pub departing_short : (n : ℕ) (ws : List ℕ) → length (unmarked (departing n ws)) < length ws → n < length ws
unfolding when◌then◌else◌
departing_short zero ws h = h
departing_short (suc n) [] h = absurd (omega (arith, h))
departing_short (suc n) (w ∷ ws) h = let k = departing_short n ws (omega (arith, h)) in omega (arith, k)

pub departing_next : (n : ℕ) (ws rest : List ℕ) (v : ℕ) → n < length ws → ws ≡ (unmarked (departing n ws) ++ (v ∷ [])) ++ rest →
    departing (suc n) ws ≡ departing n ws ++ (record { word = v; marked = false } ∷ [])
unfolding when◌then◌else◌
departing_next zero ws rest v h e = ap (departing 1) e
departing_next (suc n) [] rest v h e = absurd (omega (arith, h))
departing_next (suc n) (w ∷ ws) rest v h e =
    ap (λ (q : List Passed). record { word = w; marked = false } ∷ q) (departing_next n ws rest v (omega (arith, h)) cc)

pub departing_filler : (n : ℕ) (ws : List ℕ) → length ws ≤ length (unmarked (departing n ws)) →
    departing (suc n) ws ≡ departing n ws ++ (record { word = 0; marked = true } ∷ [])
unfolding when◌then◌else◌
departing_filler zero [] h = refl
departing_filler zero (w ∷ ws) h = absurd (omega (arith, h))
departing_filler (suc n) [] h =
    ap (λ (q : List Passed). record { word = 0; marked = true } ∷ q) (departing_filler n [] (omega arith))
departing_filler (suc n) (w ∷ ws) h =
    ap (λ (q : List Passed). record { word = w; marked = false } ∷ q) (departing_filler n ws (omega (arith, h)))

-- What is left of the words behind the departures.
none_departs : (n : ℕ) → unmarked (departing n []) ≡ []
unfolding when◌then◌else◌
none_departs zero = refl
none_departs (suc n) = none_departs n

pub departing_left : (n : ℕ) (ws rest : List ℕ) → ws ≡ unmarked (departing n ws) ++ rest → rest ≡ drop n ws
unfolding when◌then◌else◌
departing_left zero ws rest e = sym e
departing_left (suc n) [] rest e = sym (e ∙ ap (λ (q : List ℕ). q ++ rest) (none_departs n))
departing_left (suc n) (w ∷ ws) rest e = departing_left n ws rest cc
