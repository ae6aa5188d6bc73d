-- What nearly every proof speaks of, under one roof: numbers, lists, equations, tests and choices, from the kit and from this crate. Each line says
-- where its names come from.
-- Assumes nothing.
pub use Prim.Native.Nat.{◌%◌, ◌*◌, ◌+◌, ◌-◌, ◌/◌, ◌<◌, ◌^◌, ◌≤◌, min, suc, zero, zero-le, ℕ}
pub use mathlib.Core.Bool.{Bool, beq as Bool·beq, not-not as Bool·not-not, ◌&&◌, ◌||◌, and-true, false, not, or-false, or-true}
pub use mathlib.Core.Bool.{true, true≢false}
pub use mathlib.Core.List.{List, [], ◌++◌, ◌∷◌, append_assoc, append-nil}
pub use mathlib.Core.Path.{◌∙◌, ◌≡◌, ap, ap₂, refl, subst, subst₂, sym}
pub use mathlib.Core.Logic.{⊎_elim}
pub use native.Mathlib.Omega.{arith}
pub use native.Mathlib.Nat.{add_assoc, add-mul, add-zero, div-div-eq-div-mul, div-eq_of_lt, le_of_eq, le_refl}
pub use native.Mathlib.Nat.{le_trans, lt_of_le_of_lt, lt_of_lt_of_le, mod-eq_of_lt, mod-lt, mul-add-div_right}
pub use native.Mathlib.Nat.{mul_assoc, mul-le-mul, mul-le-mul_left, one-le-pow, pow-suc, pow-succ', sub-zero}
pub use native.Mathlib.Nat.{suc-add, suc-mul, zero-add, zero-div, zero-mul}
pub use borrow.Author.Rules.{rules}
pub use borrow.Author.Tests.{eq-eqb, eqb-false, eqb-true, le-leb, le-ltb, leb-false, leb-true, lt-leb, lt-ltb}
pub use borrow.Author.Tests.{ltb-false, ltb-true, ne_eqb, not-false, not-true}
pub use lib.Dec.{T, eqb, leb, lit<, lit≤, ltb, ltb→lt}
pub use lib.ListN.{get_or-append as List·getD-append, get_or-eq_default as List·getD-eq-default, drop, drop_of_length-le, get_or, get_or-replicate}
pub use lib.ListN.{length, length-append, length-drop, length-replicate, length-set, length-take, replicate}
pub use lib.ListN.{set, take}
pub use lib.Seq.{drop_at, drop-cons, drop-drop, get_or-drop, get_or-set_other, get_or-set_same, get_or-take}
pub use lib.Seq.{length-take-le, take_all, take_at, take-take}
unfoldable pub use Rattle.laws.specs.Choice.{when◌then◌else◌}
pub use Rattle.laws.proofs.Keeps.{and_both, and-false, and_first, and_left, and_rest, and_rest_first}
pub use Rattle.laws.proofs.Keeps.{and_right, by_test, clash, if_ap, if_both, if_false, if_keeps, if_not}
pub use Rattle.laws.proofs.Keeps.{if_true, like, or_left, or_rest, or_rest_first, or_right, unlike}
pub use Rattle.laws.proofs.Choices.{by_case, not_so, not_so_eq, not_so_le, not_so_lt, so, so_eq, so_le}
pub use Rattle.laws.proofs.Choices.{so_lt}
