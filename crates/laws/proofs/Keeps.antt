-- What a choice has, and what a compound test says.
--     if_keeps                        a choice has what each of its values has under its test
--     if_both                         two choices by tests that agree have what their values have, one by one
--     if_ap                           a function of a choice is a choice
--     if_true, if_false               a choice whose test is settled is one of its values
--     if_and, if_or, if_not           a choice by a compound test goes by its parts
--     and_left, and_right, and_both   the parts of a conjunction that is true
--     and_rest, and_rest_first        the part of a false conjunction that is false, the other being true
--     and-false, and_first            a conjunction with a false second part, and with a false first part
--     or_left, or_right               the parts of a false disjunction
--     or_rest, or_rest_first          the part of a true disjunction that is true, the other being false
--     by_test                         what follows from a test that is true, and from one that is false
--     clash                           a test is not both true and false
--     unlike, like                    two levels that differ, and two that agree
-- Assumes nothing.
use mathlib.Core.Bool.{Bool, true, false, not, ◌&&◌, ◌||◌, beq, true≢false}
use mathlib.Core.Path.{◌≡◌, refl, sym, ◌∙◌}
use Rattle.laws.specs.Choice.{when◌then◌else◌}

-- A choice has what its first value has if the test is true, and its second if not.
pub if_keeps : {A : Type 0} (P : A → Type 0) (b : Bool) (x y : A) → (b ≡ true → P x) → (b ≡ false → P y) →
    P (when b then x else y)
unfolding when◌then◌else◌
if_keeps P true x y h k = h refl
if_keeps P false x y h k = k refl

-- Two choices by tests that agree have what their first values have if the tests are true, and their second if not.
pub if_both : {A B : Type 0} (P : A → B → Type 0) (b c : Bool) (x y : A) (u v : B) → c ≡ b → (b ≡ true → P x u) →
    (b ≡ false → P y v) → P (when b then x else y) (when c then u else v)
unfolding when◌then◌else◌
if_both P true c x y u v e h k = rw e (h refl)
if_both P false c x y u v e h k = rw e (k refl)

-- A function of a choice is the choice between the function's values.
pub if_ap : {A B : Type 0} (f : A → B) (b : Bool) (x y : A) → f (when b then x else y) ≡ (when b then f x else f y)
unfolding when◌then◌else◌
if_ap f true x y = refl
if_ap f false x y = refl

-- A choice by a test that is true is its first value.
pub if_true : {A : Type 0} (b : Bool) (x y : A) → b ≡ true → (when b then x else y) ≡ x
unfolding when◌then◌else◌
if_true b x y e = rw e

-- A choice by a test that is false is its second value.
pub if_false : {A : Type 0} (b : Bool) (x y : A) → b ≡ false → (when b then x else y) ≡ y
unfolding when◌then◌else◌
if_false b x y e = rw e

-- A test that is both true and false proves anything.
pub clash : {A : Type 0} (b : Bool) → b ≡ true → b ≡ false → A
clash b e f = absurd (true≢false (sym e ∙ f))

-- The first part of a true conjunction is true.
pub and_left : (a b : Bool) → (a && b) ≡ true → a ≡ true
and_left true b e = refl
and_left false b e = e

-- The second part of a true conjunction is true.
pub and_right : (a b : Bool) → (a && b) ≡ true → b ≡ true
and_right true b e = e
and_right false b e = clash false e refl

-- A conjunction of truths is true.
pub and_both : (a b : Bool) → a ≡ true → b ≡ true → (a && b) ≡ true
and_both a b e f = rw (e, f)

-- A false conjunction whose first part is true has a false second part.
pub and_rest : (a b : Bool) → (a && b) ≡ false → a ≡ true → b ≡ false
and_rest true b e f = e
and_rest false b e f = clash false f refl

-- A conjunction whose second part is false is false.
pub and-false : (a b : Bool) → b ≡ false → (a && b) ≡ false
and-false true b e = e
and-false false b e = refl

-- A conjunction whose first part is false is false.
pub and_first : (a b : Bool) → a ≡ false → (a && b) ≡ false
and_first true b e = clash true refl e
and_first false b e = refl

-- The first part of a false disjunction is false.
pub or_left : (a b : Bool) → (a || b) ≡ false → a ≡ false
or_left true b e = e
or_left false b e = refl

-- The second part of a false disjunction is false.
pub or_right : (a b : Bool) → (a || b) ≡ false → b ≡ false
or_right true b e = clash true refl e
or_right false b e = e

-- A true disjunction whose first part is false has a true second part.
pub or_rest : (a b : Bool) → (a || b) ≡ true → a ≡ false → b ≡ true
or_rest true b e f = clash true refl f
or_rest false b e f = e

-- A true disjunction whose second part is false has a true first part.
pub or_rest_first : (a b : Bool) → (a || b) ≡ true → b ≡ false → a ≡ true
or_rest_first true b e f = refl
or_rest_first false b e f = clash b e f

-- A test is true or false.
pub by_test : {A : Type 0} (b : Bool) → (b ≡ true → A) → (b ≡ false → A) → A
by_test true h k = h refl
by_test false h k = k refl

-- A level unlike another is its opposite.
pub unlike : (a b : Bool) → beq a b ≡ false → a ≡ not b
unlike true true e = e
unlike true false e = refl
unlike false true e = refl
unlike false false e = sym e

-- A level that agrees with another is that level.
pub like : (a b : Bool) → beq a b ≡ true → a ≡ b
like true true e = refl
like true false e = sym e
like false true e = e
like false false e = refl

-- A false conjunction whose second part is true has a false first part.
pub and_rest_first : (a b : Bool) → (a && b) ≡ false → b ≡ true → a ≡ false
and_rest_first true b e f = clash b f e
and_rest_first false b e f = refl

-- A choice by two tests together is a choice by one after the other.
pub if_and : {A : Type 0} (a b : Bool) (x y : A) → (when a && b then x else y) ≡ (when a then when b then x else y else y)
unfolding when◌then◌else◌
if_and true b x y = refl
if_and false b x y = refl

pub if_or : {A : Type 0} (a b : Bool) (x y : A) → (when a || b then x else y) ≡ (when a then x else when b then x else y)
unfolding when◌then◌else◌
if_or true b x y = refl
if_or false b x y = refl

-- A choice by a test that is denied is the choice the other way round.
pub if_not : {A : Type 0} (a : Bool) (x y : A) → (when not a then x else y) ≡ (when a then y else x)
unfolding when◌then◌else◌
if_not true x y = refl
if_not false x y = refl
