-- The output of a script, line by line.
--     line_without_lf     an answer has no LF before the one that ends it
--     answer_is_a_line    an answer is one line of the output
--     call_of_line        a line does to the module what the calls that it asks for do
--     every_line_lem          the output has as many lines as the script
--     in_order_lem            the k-th line of the output answers the k-th line of the script
-- Assumes nothing.
use Rattle.std.specs.Prelude.{◌+◌, ◌/◌, ◌%◌, ◌<◌, ◌∷◌, ◌++◌, ◌≡◌, Option, Some, None}
use Rattle.laws.proofs.Common.{ℕ, zero, suc, Bool, true, false, List, [], append_assoc}
use Rattle.laws.proofs.Common.{refl, ap, ◌∙◌, zero-add, arith, ne_eqb, eqb, ltb, length, take, get_or, when◌then◌else◌, if_keeps}
use Rattle.laws.proofs.Common.{by_test}
use Prim.Native.Char.{code}
use Rattle.module_rules.proofs.Types.{Module, Refusal, UnreadableLine, Answer, Refused, Done, Value, NoEdge, Edge, Call, Read}
use Rattle.module_rules.proofs.Types.{Write, Tick, Pin, ClockStep, Clear, Output, Low, High, Undriven}
use Rattle.module_rules.specs.Refusals.{number_of}
use Rattle.module_rules.specs.Calls.{powered_up, after_calls, interrupt_of, sck_of, sdo_of, ss_of}
use Rattle.script_rules.specs.Script.{bytes, lf, space, read_from, lines_of, reading_of, decimal_in, decimal_of, hex_of, four_hex_of, level_digit, sdo_letter, refused_text, ok_text, ss_text, pin_text, edge_text, done_text, answer_text, line_text, line_after, answer_line, answers_from, asked, lines_calls, script_output}
use Rattle.script_rules.proofs.ScriptLines.{NoLf, no_lf, no_lf_append, lines_end}

-- No LF in an answer.

-- A byte above LF is not LF.
above_lf : (b : ℕ) → lf < b → eqb b lf ≡ false
above_lf b h = ne_eqb b lf (λ e. omega arith)

decimal_without_lf : (places n : ℕ) → NoLf (decimal_in places n)
unfolding decimal_in
decimal_without_lf zero n = tt
decimal_without_lf (suc places) n =
    if_keeps NoLf (ltb n 10) _ _
    (λ e. (above_lf (code "0" + n) (omega arith), tt))
    (λ e. no_lf_append (decimal_in places (n / 10)) _ (decimal_without_lf places (n / 10))
    (above_lf (code "0" + n % 10) (omega arith), tt))

hex_is_no_lf : (n : ℕ) → eqb (hex_of n) lf ≡ false
unfolding hex_of when◌then◌else◌
hex_is_no_lf n = above_lf (hex_of n) (by_test (ltb n 10) (λ e. rw e (omega arith)) (λ e. rw e (omega arith)))

level_is_no_lf : (b : Bool) → eqb (level_digit b) lf ≡ false
unfolding level_digit when◌then◌else◌
level_is_no_lf true = refl
level_is_no_lf false = refl

sdo_is_no_lf : (level : Output) → eqb (sdo_letter level) lf ≡ false
unfolding sdo_letter
sdo_is_no_lf Low = refl
sdo_is_no_lf High = refl
sdo_is_no_lf Undriven = refl

refused_without_lf : (r : Refusal) → NoLf (refused_text r)
unfolding refused_text decimal_of
refused_without_lf r = (refl, (refl, decimal_without_lf 10 (number_of r)))

ss_without_lf : (level : Output) → NoLf (ss_text level)
unfolding ss_text
ss_without_lf Low = no_lf (ss_text Low) refl
ss_without_lf High = no_lf (ss_text High) refl
ss_without_lf Undriven = no_lf (ss_text Undriven) refl

pin_without_lf : (m : Module) → NoLf (pin_text m)
unfolding pin_text
pin_without_lf m = (sdo_is_no_lf (sdo_of m), (refl, (level_is_no_lf (interrupt_of m), ss_without_lf (ss_of m))))

done_without_lf : (c : Call) (m : Module) → NoLf (done_text c m)
unfolding done_text ok_text bytes
done_without_lf (Pin sck sdi ss) m = pin_without_lf m
done_without_lf (Write register v) m = no_lf ok_text refl
done_without_lf Clear m = no_lf ok_text refl
done_without_lf (Read register) m = no_lf ok_text refl
done_without_lf (Tick sdi ss) m = no_lf ok_text refl
done_without_lf (ClockStep sck sdi ss) m = no_lf ok_text refl

answer_without_lf : (c : Call) (a : Answer) (m : Module) → NoLf (answer_text c a m)
unfolding answer_text edge_text four_hex_of bytes
answer_without_lf c (Refused r) m = refused_without_lf r
answer_without_lf c Done m = done_without_lf c m
answer_without_lf c (Value v) m = (hex_is_no_lf _, (hex_is_no_lf _, (hex_is_no_lf _, (hex_is_no_lf _, tt))))
answer_without_lf c NoEdge m = (refl, tt)
answer_without_lf c Edge m = (level_is_no_lf (sck_of m), (refl, pin_without_lf m))

-- What stands behind a line's number has no LF.
pub line_without_lf : (m : Module) (l : Option Call) → NoLf (line_text m l)
unfolding line_text
line_without_lf m None = refused_without_lf UnreadableLine
line_without_lf m (Some c) = answer_without_lf c _ _

-- An answer is one line of the output.
pub answer_is_a_line : (k : ℕ) (m : Module) (l : Option Call) (rest : List ℕ) →
    lines_of (answer_line k m l ++ rest) ≡ (decimal_of k ++ (space ∷ line_text m l)) ∷ lines_of rest
unfolding answer_line decimal_of
answer_is_a_line k m l rest =
    let regrouped : answer_line k m l ++ rest ≡ (decimal_of k ++ (space ∷ line_text m l)) ++ (lf ∷ rest) = simp append_assoc in
    ap lines_of regrouped
    ∙ lines_end (decimal_of k ++ (space ∷ line_text m l)) rest
    (no_lf_append (decimal_of k) _ (decimal_without_lf 10 k) (refl, line_without_lf m l))

-- What a line does is what the calls that it asks for do.
pub call_of_line : (m : Module) (l : Option Call) (cs : List Call) → after_calls m (asked l ++ cs) ≡ after_calls (line_after m l) cs
unfolding asked line_after
call_of_line m None cs = refl
call_of_line m (Some c) cs = refl

-- The answers to some lines are as many lines.
answers_every_line : (m : Module) (answered : ℕ) (lines : List (List ℕ)) →
    length (lines_of (answers_from m answered lines)) ≡ length lines
unfolding answers_from lines_of
answers_every_line m answered [] = refl
answers_every_line m answered (line ∷ lines) =
    ap length (answer_is_a_line _ m (reading_of line) _)
    ∙ ap suc (answers_every_line (line_after m (reading_of line)) (answered + 1) lines)

-- The k-th of them answers the k-th line, with the module that the lines before it left.
answers_in_order : (m : Module) (answered : ℕ) (lines : List (List ℕ)) (k : ℕ) → k < length lines →
    get_or (lines_of (answers_from m answered lines)) k []
    ≡ decimal_of (answered + k + 1) ++ (space ∷ line_text (after_calls m (lines_calls (take k lines))) (reading_of (get_or lines k [])))
unfolding answers_from lines_calls
answers_in_order m answered [] k h = absurd (omega arith)
answers_in_order m answered (line ∷ lines) zero h =
    let first : answered + 0 + 1 ≡ answered + 1 = omega arith in
    ap (λ (ls : List (List ℕ)). get_or ls 0 []) (answer_is_a_line (answered + 1) m (reading_of line) _) ∙ rw first
answers_in_order m answered (line ∷ lines) (suc k) h =
    let later : answered + suc k + 1 ≡ answered + 1 + k + 1 = omega arith in
    ap (λ (ls : List (List ℕ)). get_or ls (suc k) []) (answer_is_a_line (answered + 1) m (reading_of line) _)
    ∙ rw (later, call_of_line)
    (answers_in_order (line_after m (reading_of line)) (answered + 1) lines k (omega arith))

-- The output has as many lines as the script.
pub every_line_lem : (input : List ℕ) → length (lines_of (script_output input)) ≡ length (lines_of (read_from input))
unfolding script_output
every_line_lem input = answers_every_line powered_up 0 (lines_of (read_from input))

-- The k-th line of the output answers the k-th line of the script.
pub in_order_lem : (input : List ℕ) (k : ℕ) → k < length (lines_of (read_from input)) →
    get_or (lines_of (script_output input)) k []
    ≡ decimal_of (k + 1)
    ++ (space
    ∷ line_text (after_calls powered_up (lines_calls (take k (lines_of (read_from input)))))
    (reading_of (get_or (lines_of (read_from input)) k [])))
unfolding script_output
in_order_lem input k h = rw zero-add at (answers_in_order powered_up 0 (lines_of (read_from input)) k h)
