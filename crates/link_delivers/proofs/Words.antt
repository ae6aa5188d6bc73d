-- The lists of the law are those of the page (link_rules, specs/WireDemands.antt).
--     arriving_is     words that arrive
--     departing_is    words that depart, and as words
-- Assumes nothing.
use Rattle.std.specs.Prelude.{◌≤◌, ◌∷◌, ◌++◌, ◌≡◌}
use Rattle.laws.proofs.Common.{ℕ, zero, suc, true, false, List, [], refl, sym, ap, ◌∙◌, sub-zero}
use Rattle.laws.proofs.Common.{arith, length, take, replicate}
use native.Mathlib.Nat.{zero-sub, suc-sub-suc}
use Rattle.word_order.specs.Ledger.{Passed, words_of}
use Rattle.word_order.specs.Port.{all_unmarked}
use Rattle.word_wire.specs.Wire.{arriving, departing}
use Rattle.link_rules.specs.WireDemands.{all_marked, received, fillers, sent_of, first_of}

pub arriving_is : (room : ℕ) (ws : List ℕ) → arriving room ws ≡ received room ws
arriving_is zero [] = refl
arriving_is (suc room) [] = refl
arriving_is zero (w ∷ ws) = ap (λ (q : List Passed). record { word = w; marked = true } ∷ q) (arriving_is zero ws)
arriving_is (suc room) (w ∷ ws) = ap (λ (q : List Passed). record { word = w; marked = false } ∷ q) (arriving_is room ws)

fillers_only : (n : ℕ) → departing n [] ≡ all_marked (replicate n 0)
fillers_only zero = refl
fillers_only (suc n) = ap (λ (q : List Passed). record { word = 0; marked = true } ∷ q) (fillers_only n)

pub departing_is : (n : ℕ) (ws : List ℕ) → departing n ws ≡ sent_of n ws
departing_is zero ws = ap (λ (k : ℕ). all_marked (replicate k 0)) (sym (zero-sub (length ws)))
departing_is (suc n) [] = fillers_only (suc n) ∙ ap (λ (k : ℕ). all_marked (replicate k 0)) (sym (sub-zero (suc n)))
departing_is (suc n) (w ∷ ws) =
    ap (λ (q : List Passed). record { word = w; marked = false } ∷ q)
    (departing_is n ws ∙ ap (λ (k : ℕ). all_unmarked (take n ws) ++ all_marked (replicate k 0)) (sym (suc-sub-suc n (length ws))))

-- With no more departures than words none is a filler.
pub departing_real : (n : ℕ) (ws : List ℕ) → n ≤ length ws → departing n ws ≡ all_unmarked (take n ws)
departing_real zero ws h = refl
departing_real (suc n) [] h = absurd (omega (arith, h))
departing_real (suc n) (w ∷ ws) h =
    ap (λ (q : List Passed). record { word = w; marked = false } ∷ q) (departing_real n ws (omega (arith, h)))

-- As words.
marked_words : (ws : List ℕ) → words_of (all_marked ws) ≡ ws
marked_words [] = refl
marked_words (w ∷ ws) = ap (λ (q : List ℕ). w ∷ q) (marked_words ws)

both_words : (ws vs : List ℕ) → words_of (all_unmarked ws ++ all_marked vs) ≡ ws ++ vs
both_words [] vs = marked_words vs
both_words (w ∷ ws) vs = ap (λ (q : List ℕ). w ∷ q) (both_words ws vs)

pub departing_words : (n : ℕ) (ws : List ℕ) → words_of (departing n ws) ≡ first_of n ws
departing_words n ws = ap words_of (departing_is n ws) ∙ both_words (take n ws) (replicate (fillers n ws) 0)
