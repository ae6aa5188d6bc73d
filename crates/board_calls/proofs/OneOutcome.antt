-- No two outcomes meet a contract of the board's calls over memory: it decides the number returned, the lent floats, and the modules
-- that memory then holds.
--     call_one, tick_one, run_one   a call of one module of the list, a tick by its own way, and a linked run of two
--     make_one, join_one            the same over the numbers of the records alone
--     question_one                  the question
-- Assumes nothing.
use Rattle.std.specs.Prelude.{◌≡◌}
use Rattle.laws.proofs.Common.{ℕ, Bool, List, [], sym, ◌∙◌, replicate, length-replicate}
use lib.Ieee.{Float}
use Rattle.module_types.specs.declared.Module.{Module}
use Rattle.module_rules.specs.Calls.{powered_up}
use Rattle.board_rules.specs.declared.BoardCall.{BoardCall}
use Rattle.module_memory.specs.Memory.{module_in}
use Rattle.board_calls.specs.declared.Cells.{Cells}
use Rattle.board_calls.specs.Boards.{modules_in}
use Rattle.board_calls.specs.Owing.{TellsOwed, MakesOwed, LinksOwed, OwedTells, OwedTickTells, OwedPairTells}

pub call_one : (owed n : ℕ) (c : BoardCall) (r s : ℕ) (floats f g : List Float) (before x y : List Cells) →
    OwedTells owed n c r floats f before x → OwedTells owed n c s floats g before y →
    (r ≡ s) × ((f ≡ g) × (modules_in x ≡ modules_in y))
call_one owed n c r s floats f g before x y h k =
    (h.number ∙ sym k.number, (h.leaves.report ∙ sym k.leaves.report, h.leaves.holds ∙ sym k.leaves.holds))

pub tick_one : (owed n : ℕ) (sdi ss : Bool) (r s : ℕ) (before x y : List Cells) → OwedTickTells owed n sdi ss r before x →
    OwedTickTells owed n sdi ss s before y → (r ≡ s) × (modules_in x ≡ modules_in y)
tick_one owed n sdi ss r s before x y h k =
    let one = call_one owed n _ r s [] [] [] before x y (h.tells []) (k.tells []) in (one.0, one.1.1)

pub run_one : (owed a b limit r s : ℕ) (before x y : List Cells) → OwedPairTells owed a b limit r before x →
    OwedPairTells owed a b limit s before y → (r ≡ s) × (modules_in x ≡ modules_in y)
run_one owed a b limit r s before x y h k = (h.number ∙ sym k.number, h.leaves.holds ∙ sym k.leaves.holds)

pub make_one : (owed : ℕ) (c : BoardCall) (r s : ℕ) (floats f g : List Float) (before x y : List ℕ) →
    MakesOwed owed c r floats f before x → MakesOwed owed c s floats g before y → (r ≡ s) × ((f ≡ g) × (module_in x ≡ module_in y))
make_one owed c r s floats f g before x y h k =
    let same : module_in x ≡ module_in y = h.made.holds ∙ sym k.made.holds in
    (cc (h.number, k.number, same), (h.made.report ∙ sym k.made.report, same))

pub join_one : (owed limit r s : ℕ) (host x y client u v : List ℕ) → LinksOwed owed limit r host x client u →
    LinksOwed owed limit s host y client v → (r ≡ s) × ((module_in x ≡ module_in y) × (module_in u ≡ module_in v))
join_one owed limit r s host x y client u v h k =
    let first : module_in x ≡ module_in y = h.linked.host_holds ∙ sym k.linked.host_holds in
    let second : module_in u ≡ module_in v = h.linked.client_holds ∙ sym k.linked.client_holds in
    (cc (h.number, k.number, first, second), (first, second))

pub question_one : (count owed r s : ℕ) → TellsOwed count owed r → TellsOwed count owed s → r ≡ s
question_one count owed r s h k =
    let ms : List Module = replicate count powered_up in
    h.number ms (length-replicate count powered_up) ∙ sym (k.number ms (length-replicate count powered_up))
