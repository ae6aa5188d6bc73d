-- What lines tell, and how long it is.
--     refusal_number_short, line_number_short     a refusal's number has at most two digits, a line's number five
--     answer_short     what a call's answer tells takes at most seven bytes
-- Assumes nothing.
use Rattle.std.specs.Prelude.{◌+◌, ◌≤◌, ◌≡◌}
use Rattle.laws.proofs.Common.{ℕ, List, arith, length}
use Rattle.module_rules.proofs.Types.{Module, Answer, Call, Refusal}
use Rattle.module_rules.specs.Refusals.{number_of}
use Rattle.script_rules.specs.Script.{decimal_of, answer_text}
use Rattle.script_rules.specs.Texts.{Written}
use Rattle.script_rules.proofs.ScriptSizes.{number_below, decimal_length, answer_length}

pub refusal_number_short : (r : Refusal) (n : ℕ) → n ≡ number_of r → length (decimal_of n) ≤ 2
unfolding decimal_of
refusal_number_short r n e = rw e (decimal_length 10 2 (number_of r) (number_below r) (omega arith))

pub line_number_short : (n : ℕ) → n ≤ 65536 → length (decimal_of n) ≤ 5
unfolding decimal_of
line_number_short n h = decimal_length 10 5 n (omega arith) (omega arith)

pub answer_short : (c : Call) (a : Answer) (m : Module) {before after : List ℕ} {place next : ℕ} →
    Written (answer_text c a m) before place after next → next ≤ place + 7
answer_short c a m h = omega (arith, h.behind, answer_length c a m)
