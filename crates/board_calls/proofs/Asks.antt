-- Calls by their kind, and what is told of each kind.
--     asked_as     a kind that is a number asks what that number asks
--     asked_look   any other kind is a look
--     made, powered, reported, looked, stepped, worded   what is told of each
--     bad, few, many, right                       whether a list of so many is wrong
--     tests_list, tests_module, tests_none        the board's test, by what it finds
--     tests_first, tests_same, tests_second       that of a linked run, by the tests of its two modules
--     refuses, refused_with, refused_not          what a refused call returns, and whether it is refused
-- Assumes nothing.
use Rattle.std.specs.Prelude.{◌<◌, ◌≤◌, ◌*◌, ◌%◌, ◌||◌, ◌∷◌, ◌≡◌, Result, Ok, Err, IsErrAnd, Option, None, Some, is_some, ⊤}
use Rattle.laws.proofs.Common.{ℕ, Bool, true, false, true≢false, List, [], refl, sym}
use Rattle.laws.proofs.Common.{subst, ap, ◌∙◌, arith, lt-ltb, le-ltb, le-leb, lt-leb, lit≤, eq-eqb, ne_eqb, eqb-true, eqb-false, ltb, leb, eqb}
use Rattle.laws.proofs.Common.{when◌then◌else◌, not_so_eq, if_false, clash}
use lib.Ieee.{Float}
use Rattle.module_types.specs.declared.Call.{Call}
use Rattle.module_rules.specs.RefusalTable.{row, first_number}
use Rattle.module_rules.specs.Calls.{power_up_of, powered_up, clock_step_of, perform_of}
use Rattle.clock_rules.specs.Clock.{report_of, said_clock}
use Rattle.board_rules.specs.declared.BoardCall.{BoardCall}
use Rattle.board_rules.specs.declared.BoardCall.TheVariants.{PowerUp, PowerUpAt, Make, Report, Look, StepAndLook, MakeWord}
use Rattle.board_rules.specs.declared.BoardFault.{BoardFault}
use Rattle.board_rules.specs.declared.BoardFault.TheVariants.{BadList, NoModule}
use Rattle.board_rules.specs.Board.{board_number_of, answer_alone, after_alone, seen_of}
use Rattle.board_rules.specs.BoardDemands.{board_rows, pair_rows}
use Rattle.module_memory.specs.Memory.{module_in}
use Rattle.word_rules.specs.Word.{word_of}
use Rattle.word_calls.specs.Speaking.{WordTells}
use Rattle.module_by_number.specs.Told.{Tells, levels_number, StepTells, ClockTells}
use Rattle.board_calls.specs.Boards.{asked_of, board_number, floats_after, MakeTells}
use Rattle.board_calls.specs.Owing.{both_in, fault_told, refused_number, refused_as}

module _ {r : ℕ} {floats floatsAt : List Float} {before after : List ℕ} where
  pub asked_as : (k x y z : ℕ) {kind : ℕ} → kind ≡ k → MakeTells (asked_of k x y z) r floats floatsAt before after →
      MakeTells (asked_of kind x y z) r floats floatsAt before after
  asked_as k x y z e h = rw e h

  pub asked_look : (x y z : ℕ) {kind : ℕ} → (kind ≡ 0 → ⊥) → (kind ≡ 1 → ⊥) → (kind ≡ 2 → ⊥) → (kind ≡ 3 → ⊥) → (kind ≡ 4 → ⊥) →
      (kind ≡ 5 → ⊥) → (kind ≡ 6 → ⊥) → (kind ≡ 8 → ⊥) → (kind ≡ 9 → ⊥) → (kind ≡ 10 → ⊥) → MakeTells Look r floats floatsAt before after →
      MakeTells (asked_of kind x y z) r floats floatsAt before after
  unfolding asked_of
  asked_look x y z {kind} n0 n1 n2 n3 n4 n5 n6 n8 n9 n10 h =
      let is : Look ≡ asked_of kind x y z =
      not_so_eq kind 0 _ _ n0 (not_so_eq kind 1 _ _ n1 (not_so_eq kind 2 _ _ n2 (not_so_eq kind 3 _ _ n3 (not_so_eq kind 4 _ _ n4
      (not_so_eq kind 5 _ _ n5 (not_so_eq kind 6 _ _ n6 (not_so_eq kind 8 _ _ n8 (not_so_eq kind 9 _ _ n9
      (not_so_eq kind 10 _ _ n10 refl)))))))))
      in
      subst (λ (c : BoardCall). MakeTells c r floats floatsAt before after) is h

-- What is told of each kind.
module _ {floats : List Float} {before : List ℕ} where
  pub made : {c : Call} {r : ℕ} {after : List ℕ} → Tells (perform_of (module_in before) c) r before after →
      MakeTells (Make c) r floats floats before after
  unfolding board_number answer_alone after_alone floats_after
  made h = record { number = h.number; holds = h.holds; report = refl; untouched = h.untouched }

  pub powered : {after : List ℕ} → module_in after ≡ powered_up → MakeTells PowerUp 0 floats floats before after
  unfolding board_number answer_alone after_alone floats_after
  powered h = record { number = refl; holds = h; report = refl; untouched = λ t. absurd (true≢false (sym t)) }

  pub powered_with : {words r : ℕ} {after : List ℕ} → Tells (power_up_of (module_in before) words) r before after →
      MakeTells (PowerUpAt words) r floats floats before after
  unfolding board_number answer_alone after_alone floats_after
  powered_with h = record { number = h.number; holds = h.holds; report = refl; untouched = h.untouched }

  pub reported : {f r : ℕ} {floatsAt : List Float} → ClockTells (said_clock (report_of (module_in before) f)) r floats floatsAt →
      MakeTells (Report f) r floats floatsAt before before
  unfolding board_number answer_alone after_alone floats_after
  reported h = record { number = h.number; holds = refl; report = h.report; untouched = λ _. refl }

  pub looked : {r : ℕ} → r ≡ levels_number (module_in before) → MakeTells Look r floats floats before before
  unfolding board_number answer_alone after_alone floats_after seen_of levels_number
  looked e = record { number = e; holds = refl; report = refl; untouched = λ _. refl }

  pub stepped : {sck sdi ss : Bool} {r : ℕ} {after : List ℕ} → StepTells (clock_step_of (module_in before) sck sdi ss) r before after →
      MakeTells (StepAndLook sck sdi ss) r floats floats before after
  unfolding board_number answer_alone after_alone floats_after seen_of levels_number
  stepped h = record { number = h.number; holds = h.holds; report = refl; untouched = h.untouched }

  pub worded : {ss : Bool} {word r : ℕ} {after : List ℕ} → WordTells (word_of (module_in before) ss word) r before after →
      MakeTells (MakeWord ss word) r floats floats before after
  unfolding board_number answer_alone after_alone floats_after
  worded h = record { number = h.number; holds = h.holds; report = refl; untouched = h.untouched }

-- The board's test.
abbrev pub bad : ℕ → Bool
bad count = ltb count 1 || ltb 4 count

pub few : (count : ℕ) → count < 1 → bad count ≡ true
few count h = rw (lt-ltb count 1 h) refl

pub many : (count : ℕ) → 4 < count → bad count ≡ true
many count h = rw (le-ltb count 1 (omega arith), lt-ltb 4 count h) refl

pub right : (count : ℕ) → 1 ≤ count → count ≤ 4 → bad count ≡ false
right count h k = rw (le-ltb count 1 h, le-ltb 4 count k) refl

module _ (count n : ℕ) where
  pub tests_list : bad count ≡ true → 21 ≡ first_number (board_rows count n)
  unfolding when◌then◌else◌
  tests_list b = rw b

  pub tests_module : bad count ≡ false → count ≤ n → 22 ≡ first_number (board_rows count n)
  unfolding when◌then◌else◌
  tests_module b h = rw (b, le-leb count n h)

  pub tests_none : bad count ≡ false → n < count → 0 ≡ first_number (board_rows count n)
  unfolding when◌then◌else◌
  tests_none b h = rw (b, lt-leb count n h)

-- That of a linked run, by those of its two modules: what the first refuses is refused so; if it refuses nothing, the same module twice is
-- refused, and else the second module's test decides.
abbrev rows : Bool → Bool → ℕ
rows list missing = first_number (row 21 list ∷ row 22 missing ∷ [])

first_decides : (list here there same : Bool) {n : ℕ} → n ≡ rows list here → 1 ≤ n → n ≡ rows list (here || (there || same))
unfolding when◌then◌else◌
first_decides true here there same e some = e
first_decides false true there same e some = e
first_decides false false there same e some = absurd (omega (arith, e, some))

same_decides : (list here there : Bool) → 0 ≡ rows list here → 22 ≡ rows list (here || (there || true))
unfolding when◌then◌else◌
same_decides true here there e = absurd (omega (arith, e))
same_decides false true there e = refl
same_decides false false true e = refl
same_decides false false false e = refl

second_decides : (list here there : Bool) {n : ℕ} → 0 ≡ rows list here → n ≡ rows list there → n ≡ rows list (here || (there || false))
unfolding when◌then◌else◌
second_decides true here there e h = absurd (omega (arith, e))
second_decides false true there e h = absurd (omega (arith, e))
second_decides false false true e h = h
second_decides false false false e h = h

module _ (count a b : ℕ) where
  pub tests_first : {n : ℕ} → n ≡ first_number (board_rows count a) → 1 ≤ n → n ≡ first_number (pair_rows count a b)
  tests_first e some = first_decides (bad count) (leb count a) (leb count b) (eqb a b) e some

  pub tests_same : 0 ≡ first_number (board_rows count a) → a ≡ b → 22 ≡ first_number (pair_rows count a b)
  tests_same e same = rw (eq-eqb a b same) (same_decides (bad count) (leb count a) (leb count b) e)

  pub tests_second : {n : ℕ} → 0 ≡ first_number (board_rows count a) → (a ≡ b → ⊥) → n ≡ first_number (board_rows count b) →
      n ≡ first_number (pair_rows count a b)
  tests_second e other h = rw (ne_eqb a b other) (second_decides (bad count) (leb count a) (leb count b) e h)

-- What a refused call returns, as an Option.
numbered : (w : BoardFault) → 1 ≤ board_number_of w
unfolding board_number_of
numbered BadList = lit≤ tt
numbered NoModule = lit≤ tt

-- A fault that the first test of a linked run hands on.
pub handed_on : (t : Result ⊤ BoardFault) (w : BoardFault) → IsErrAnd t (λ (x : BoardFault). x ≡ w) → t ≡ Err w
handed_on (Ok done) w h = absurd h
handed_on (Err x) w h = ap Err h

pub fault_some : {w : BoardFault} {t : Result ⊤ BoardFault} → t ≡ Err w → 1 ≤ fault_told t
fault_some {w} e = rw e (numbered w)

pub refuses : (owed : ℕ) (w : BoardFault) {r : ℕ} → r ≡ both_in (owed % 65536) (board_number_of w * 65536) →
    Some r ≡ refused_as (refused_number owed (board_number_of w * 65536))
unfolding refused_as refused_number both_in
refuses owed w {r} e =
    let some : 1 ≤ board_number_of w = numbered w in
    let number : r ≡ (when eqb (board_number_of w * 65536) 0 then 0 else r) = sym (if_false (eqb (board_number_of w * 65536) 0) _ _ (ne_eqb _ 0 (omega arith))) in
    sym (if_false (eqb r 0) _ _ (ne_eqb r 0 (omega arith))) ∙ ap (λ (k : ℕ). when eqb k 0 then None else Some k) (number ∙ ap (λ (k : ℕ). when eqb (board_number_of w * 65536) 0 then 0 else k) e)

abbrev number_in : Option ℕ → ℕ
number_in None = 0
number_in (Some number) = number

given : (b : Bool) (x why : ℕ) → eqb x 0 ≡ b → Some why ≡ (when b then None else Some x) → (why ≡ x) × (0 < why)
unfolding when◌then◌else◌
given true x why on e = clash true refl (ap is_some e)
given false x why off e = let is : why ≡ x = ap number_in e in (is, omega (arith, is, eqb-false x 0 off))

not_given : (b : Bool) (x : ℕ) → eqb x 0 ≡ b → None ≡ (when b then None else Some x) → 0 ≡ x
unfolding when◌then◌else◌
not_given true x on e = sym (eqb-true x 0 on)
not_given false x off e = clash false (ap is_some e) refl

module _ {x : ℕ} where
  pub refused_with : {why : ℕ} → Some why ≡ refused_as x → (why ≡ x) × (0 < why)
  unfolding refused_as
  refused_with {why} e = given (eqb x 0) x why refl e

  pub refused_not : None ≡ refused_as x → 0 ≡ x
  unfolding refused_as
  refused_not e = not_given (eqb x 0) x refl e
