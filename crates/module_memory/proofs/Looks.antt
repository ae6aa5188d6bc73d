-- What the numbers of the shift register tell of it.
--     free_looked, begun_looked   whether it is free, and whether a word is begun
--     begun_there                 the word that is begun
--     gone_on_lem                     with other edges and other received bits
-- Assumes nothing.
use Rattle.std.specs.Prelude.{◌≡◌}
use Rattle.laws.proofs.Common.{ℕ, zero, suc, Bool, true, false, List, refl, sym, ◌∙◌, ap, arith, lt-ltb, ne_eqb, eqb}
use Rattle.laws.proofs.Common.{ltb, when◌then◌else◌, if_false, clash}
use Rattle.module_rules.proofs.Types.{Progress, Free, Loaded, Begun}
use Rattle.module_rules.specs.Registers.{is_free}
use Rattle.module_rules.specs.Loading.{is_begun}
use Rattle.module_memory.specs.Memory.{bit_in, place_in, progress_at, engine_in, went_on}

free : (a b : Bool) (word : ℕ) (p : Progress) → a ≡ is_free (when a then Free else when b then Loaded word else Begun p)
unfolding when◌then◌else◌
free true b word p = refl
free false true word p = refl
free false false word p = refl

pub free_looked : (w : List ℕ) → eqb (place_in w 64) 0 ≡ is_free (engine_in w).shift
unfolding engine_in
free_looked w = free (eqb (place_in w 64) 0) (eqb (place_in w 64) 1) _ _

begun : (tag word : ℕ) (p : Progress) →
    ltb 1 tag ≡ is_begun (when eqb tag 0 then Free else when eqb tag 1 then Loaded word else Begun p)
unfolding when◌then◌else◌
begun zero word p = refl
begun (suc zero) word p = refl
begun (suc (suc tag)) word p =
    let x = suc (suc tag) in
    lt-ltb 1 x (omega arith)
    ∙ sym
    (ap is_begun
    (if_false (eqb x 0) _ _ (ne_eqb x 0 (λ e. omega arith)) ∙ if_false (eqb x 1) _ _ (ne_eqb x 1 (λ e. omega arith))))

pub begun_looked : (w : List ℕ) → ltb 1 (place_in w 64) ≡ is_begun (engine_in w).shift
unfolding engine_in
begun_looked w = begun (place_in w 64) _ _

begun_word : (a b : Bool) (word : ℕ) (p : Progress) → is_begun (when a then Free else when b then Loaded word else Begun p) ≡ true →
    (when a then Free else when b then Loaded word else Begun p) ≡ Begun p
unfolding when◌then◌else◌
begun_word true b word p e = clash false e refl
begun_word false true word p e = clash false e refl
begun_word false false word p e = refl

pub begun_there : (w : List ℕ) → is_begun (engine_in w).shift ≡ true → (engine_in w).shift ≡ Begun (progress_at (place_in w))
unfolding engine_in
begun_there w = begun_word (eqb (place_in w 64) 0) (eqb (place_in w 64) 1) _ _

gone : (a b : Bool) (edges received word : ℕ) (p : Progress) →
    (when a then Free
    else when b then Loaded word
    else Begun (record { filler = p.filler; word = p.word; edges = edges; received = received }))
    ≡ went_on edges received (when a then Free else when b then Loaded word else Begun p)
unfolding when◌then◌else◌ went_on
gone true b edges received word p = refl
gone false true edges received word p = refl
gone false false edges received word p = refl

pub gone_on_lem : (w : List ℕ) (edges received : ℕ) →
    (when eqb (place_in w 64) 0 then Free
    else when eqb (place_in w 64) 1 then Loaded (place_in w 66)
    else Begun (record { filler = bit_in (place_in w 65); word = place_in w 66; edges = edges; received = received }))
    ≡ went_on edges received (engine_in w).shift
unfolding engine_in
gone_on_lem w edges received = gone (eqb (place_in w 64) 0) (eqb (place_in w 64) 1) edges received _ _
