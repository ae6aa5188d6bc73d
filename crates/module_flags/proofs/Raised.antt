-- The interrupt conditions of document 01 (specs/Flags.antt) beside the events of specs/Interrupts.antt.
--     raised_none       where nothing is seen to happen, no condition is met
--     taken_raises_lem      a BUF read
--     finish_raises     a finish: an append or none, a leaving or none, and the finish itself
--     write_raises      a BUF write: a leaving or none, and the write itself
-- Assumes nothing.
use Rattle.std.specs.Prelude.{◌*◌, ◌&&◌, ◌||◌, ◌≡◌}
use Rattle.laws.proofs.Common.{ℕ, zero, suc, Bool, true, false, or-false, and-true, refl, sym, ap, ◌∙◌}
use Rattle.laws.proofs.Common.{arith, ne_eqb, leb-true, le-leb, leb-false, lt-leb, ltb-true, eqb, leb, ltb, get_or, if_keeps}
use Rattle.laws.proofs.Common.{if_true, if_false, by_test}
use mathlib.Core.Bool.{and-false}
use mathlib.Core.Path.{fun_ext}
use Rattle.module_rules.proofs.Types.{Depth, Four, Eight, Sixteen, Settings, Event, Taken, Appended, Left, Finished, Written}
use Rattle.module_rules.specs.Flags.{Seen, conditions, raised}
use Rattle.module_rules.specs.InBits.{room}
use Rattle.module_rules.specs.Settings.{words_of, depth_of}
use Rattle.module_rules.specs.Interrupts.{three_quarters, enhanced_raises, standard_raises, raises}

-- SISEL is 0 to 7, or none of them.
sisel_cases : (P : ℕ → Type 0) → P 0 → P 1 → P 2 → P 3 → P 4 → P 5 → P 6 → P 7 →
    ((k : ℕ) → P (suc (suc (suc (suc (suc (suc (suc (suc k))))))))) → (k : ℕ) → P k
sisel_cases P a b c d e f g h above zero = a
sisel_cases P a b c d e f g h above (suc zero) = b
sisel_cases P a b c d e f g h above (suc (suc zero)) = c
sisel_cases P a b c d e f g h above (suc (suc (suc zero))) = d
sisel_cases P a b c d e f g h above (suc (suc (suc (suc zero)))) = e
sisel_cases P a b c d e f g h above (suc (suc (suc (suc (suc zero))))) = f
sisel_cases P a b c d e f g h above (suc (suc (suc (suc (suc (suc zero)))))) = g
sisel_cases P a b c d e f g h above (suc (suc (suc (suc (suc (suc (suc zero))))))) = h
sisel_cases P a b c d e f g h above (suc (suc (suc (suc (suc (suc (suc (suc k)))))))) = above k

-- A number of 8 or more is none of 0 to 7.
beyond : (k i : ℕ) → ltb i 8 ≡ true → eqb (suc (suc (suc (suc (suc (suc (suc (suc k)))))))) i ≡ false
beyond k i h = ne_eqb _ i (omega (arith, ltb-true i 8 h))

-- Alternatives that are out.
ruleset plain = (or-false, and-false, and-true)

-- What is seen of a call, in the order of the conditions. A loss is no condition.
abbrev pub event : Bool → Bool → Bool → Bool → Bool → ℕ → ℕ → Bool → Seen
event read added left finished accepted unread waiting none =
    record {
      accepted = accepted;
      read = read;
      finished = finished;
      lost = false;
      added = added;
      left = left;
      unread = unread;
      waiting = waiting;
      none = none;
    }

-- Three quarters of a depth that can be chosen.
quarters : (m q u : ℕ) → m ≡ 4 * q → leb m (4 * u) ≡ leb q u
quarters m q u e =
    by_test (leb q u) (λ f. le-leb m (4 * u) (omega (arith, leb-true q u f)) ∙ sym f)
    (λ f. lt-leb m (4 * u) (omega (arith, leb-false q u f)) ∙ sym f)

three_quarters_lem : (depth : Depth) (u : ℕ) → leb (3 * words_of depth) (4 * u) ≡ leb (three_quarters (words_of depth)) u
three_quarters_lem Four u = quarters 12 3 u refl
three_quarters_lem Eight u = quarters 24 6 u refl
three_quarters_lem Sixteen u = quarters 48 12 u refl

-- No alternative.
no_condition : (d u w : ℕ) (none : Bool) (k : ℕ) → get_or (conditions d (event false false false false false u w none)) k false ≡ false
no_condition d u w none =
    sisel_cases (λ k. get_or (conditions d (event false false false false false u w none)) k false ≡ false) refl refl refl refl refl
    refl refl refl (λ k. refl)

-- What is seen, field by field.
pub raised_as : (s : Settings) (v : Seen) {r a l f c none : Bool} {u w : ℕ} → v.read ≡ r → v.added ≡ a → v.left ≡ l →
    v.finished ≡ f →
    v.accepted ≡ c → v.unread ≡ u → v.waiting ≡ w → v.none ≡ none → raised s v ≡ raised s (event r a l f c u w none)
raised_as s v er ea el ef ec eu ew en = λ i. raised s (event (er i) (ea i) (el i) (ef i) (ec i) (eu i) (ew i) (en i))

-- Where nothing is seen to happen, no condition is met.
pub raised_none : (s : Settings) (v : Seen) → v.read ≡ false → v.added ≡ false → v.left ≡ false → v.finished ≡ false →
    v.accepted ≡ false → raised s v ≡ false
raised_none s v er ea el ef ec =
    raised_as s v er ea el ef ec refl refl refl
    ∙ if_keeps (λ (b : Bool). b ≡ false) s.con2.spiben _ _ (λ e. no_condition (room s) v.unread v.waiting v.none s.sisel) (λ e. refl)

-- In enhanced operation the depth is the chosen one.
abbrev words : Settings → ℕ
words s = words_of s.depth

-- What events raise, in whatever way it is put together, is what the conditions say, if it is so under each SISEL in
-- enhanced operation, and in standard operation.
raised_by_lem : (s : Settings) (v : Seen) (f : (Event → Bool) → Bool) →
    ((k : ℕ) → f (enhanced_raises (words s) k) ≡ get_or (conditions (words s) v) k false) → f standard_raises ≡ v.finished →
    f (raises s) ≡ raised s v
unfolding raises
raised_by_lem s v f enhanced standard =
    by_test s.con2.spiben
    (λ e.
    let depth : depth_of s ≡ words s = if_true s.con2.spiben (words s) 1 e in
    ap f (fun_ext (λ x. if_true s.con2.spiben _ _ e ∙ ap (λ (d : ℕ). enhanced_raises d s.sisel x) depth))
    ∙ enhanced s.sisel
    ∙ sym (if_true s.con2.spiben _ _ e ∙ ap (λ (d : ℕ). get_or (conditions d v) s.sisel false) depth))
    (λ e. ap f (fun_ext (λ x. if_false s.con2.spiben _ _ e)) ∙ standard ∙ sym (if_false s.con2.spiben _ _ e))

-- A BUF read.
pub taken_raises_lem : (s : Settings) (u w : ℕ) (none : Bool) → raises s (Taken u) ≡ raised s (event true false false false false u w none)
taken_raises_lem s u w none =
    raised_by_lem s (event true false false false false u w none) (λ f. f (Taken u))
    (sisel_cases _ refl refl refl refl refl refl refl refl (λ k. simp (beyond k))) refl

-- A finish, with an append or none, and a leaving or none.
pub finish_raises : (s : Settings) (a l : Bool) (u w c : ℕ) (none : Bool) → none ≡ eqb c 0 →
    (((a && raises s (Appended u)) || (l && raises s (Left w))) || raises s (Finished c)) ≡ raised s (event false a l true false u w none)
finish_raises s a l u w c none last =
    raised_by_lem s (event false a l true false u w none) (λ f. ((a && f (Appended u)) || (l && f (Left w))) || f (Finished c))
    (sisel_cases _ (simp plain) (simp plain) (simp (plain, three_quarters_lem s.depth)) (simp plain) (simp plain)
    (simp (plain, last)) (simp plain)
    (simp plain) (λ k. simp (beyond k, plain)))
    (simp plain)

-- A BUF write, with a leaving or none.
pub write_raises : (s : Settings) (l : Bool) (u w : ℕ) (none : Bool) →
    ((l && raises s (Left w)) || raises s (Written w)) ≡ raised s (event false false l false true u w none)
write_raises s l u w none =
    raised_by_lem s (event false false l false true u w none) (λ f. (l && f (Left w)) || f (Written w))
    (sisel_cases _ (simp plain) (simp plain) (simp plain) (simp plain) (simp plain) (simp plain) (simp plain) (simp plain)
    (λ k. simp (beyond k, plain)))
    (simp plain)
