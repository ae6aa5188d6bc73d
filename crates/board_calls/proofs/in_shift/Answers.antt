-- Each arm is the clause of the definition for its case.
use Rattle.laws.proofs.Common.{refl, arith, by_case, so, not_so}
use Rattle.board_rules.specs.Owed.{in_shift}
use Rattle.board_calls.proofs.in_shift.Goals as goal

pub returns-in-Free : goal.returns-in-Free
unfolding in_shift
returns-in-Free c = (by_case (in_shift c.args.s) c.in-Free.is refl, omega arith)

pub returns-in-Loaded : goal.returns-in-Loaded
unfolding in_shift
returns-in-Loaded c = (by_case (in_shift c.args.s) c.in-Loaded.is refl, omega arith)

pub returns-then-p-ssen_client : goal.returns-then-p-ssen_client
unfolding in_shift
returns-then-p-ssen_client c =
    (by_case (in_shift c.args.s) c.in-Begun.is (so _ _ _ (rw c.ssen_client.ensures at c.if-p-ssen_client.true) refl), omega arith)

pub returns-else-p-ssen_client : goal.returns-else-p-ssen_client
unfolding in_shift
returns-else-p-ssen_client c =
    (by_case (in_shift c.args.s) c.in-Begun.is (not_so _ _ _ (rw c.ssen_client.ensures at c.if-p-ssen_client.false) refl), omega arith)
