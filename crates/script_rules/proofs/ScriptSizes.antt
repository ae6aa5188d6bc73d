-- How many bytes the answers take.
--     decimal_length      a number below 10 ^ p takes at most p digits, however many places it may have
--     line_text_length    what stands behind a line's number takes at most 7 bytes
--     answer_line_fits    the answer to a line numbered up to 65,536 takes at most 16 bytes
--     answers_fit         the answers to a number of lines take at most 16 bytes for each
--     piece_fits_lem          those of a piece fit a buffer of 4,096 bytes
-- Assumes nothing.
use Rattle.std.specs.Prelude.{◌+◌, ◌*◌, ◌/◌, ◌^◌, ◌≤◌, ◌<◌, ◌≡◌, Option, Some, None}
use Rattle.laws.proofs.Common.{ℕ, zero, suc, false, List, pow-suc, arith, ltb-false, leb}
use Rattle.laws.proofs.Common.{ltb, length, length-append, if_keeps, or_right}
use Rattle.module_rules.proofs.Types.{Module, Refusal, NoSuchRegister, Disabled, Enabled, TransmitFull, ReceiveEmpty}
use Rattle.module_rules.proofs.Types.{WrongClock, NoRate, UnreadableLine, DifferentModes, TooManyEdges, Undivided}
use Rattle.module_rules.proofs.Types.{LateSampling, UnselectedCke, Overflowed, NoSuchDepth, Answer, Refused, Done, Value}
use Rattle.module_rules.proofs.Types.{NoEdge, Edge, Call, Read, Write, Tick, Pin, ClockStep, Clear, Output, Low, High}
use Rattle.module_rules.proofs.Types.{Undriven}
use Rattle.module_rules.specs.Refusals.{number_of}
use Rattle.module_rules.specs.Calls.{ss_of}
use Rattle.script_rules.specs.declared.Session.{Session}
use Rattle.script_rules.specs.Script.{bytes, most_bytes, read_from, reading_of, decimal_in, decimal_of, four_hex_of, refused_text, ok_text, ss_text, pin_text, edge_text, done_text, answer_text, line_text, answer_line}
use Rattle.script_rules.specs.Session.{ended, line_of, line_played, answers, piece_lines, piece_text}

-- A number below 10 ^ p has no more than p digits.
pub decimal_length : (places p n : ℕ) → n < 10 ^ p → 0 < p → length (decimal_in places n) ≤ p
unfolding decimal_in
decimal_length zero p n h k = omega arith
decimal_length (suc places) zero n h k = absurd (omega arith)
decimal_length (suc places) (suc zero) n h k =
    if_keeps (λ (t : List ℕ). length t ≤ 1) (ltb n 10) _ _ (λ e. omega arith) (λ e. absurd (omega (arith, ltb-false n 10 e)))
decimal_length (suc places) (suc (suc p)) n h k =
    if_keeps (λ (t : List ℕ). length t ≤ suc (suc p)) (ltb n 10) _ _
    (λ e. omega arith)
    (λ e. simp length-append
    (omega (arith, decimal_length places (suc p) (n / 10) (omega (arith, pow-suc 10 (suc p))) (omega arith))))

-- The table's numbers have at most two digits.
pub number_below : (r : Refusal) → number_of r < 10 ^ 2
unfolding number_of
number_below NoSuchRegister = omega arith
number_below Disabled = omega arith
number_below Enabled = omega arith
number_below TransmitFull = omega arith
number_below ReceiveEmpty = omega arith
number_below WrongClock = omega arith
number_below NoRate = omega arith
number_below UnreadableLine = omega arith
number_below DifferentModes = omega arith
number_below TooManyEdges = omega arith
number_below Undivided = omega arith
number_below LateSampling = omega arith
number_below UnselectedCke = omega arith
number_below Overflowed = omega arith
number_below NoSuchDepth = omega arith

pub refused_length : (r : Refusal) → length (refused_text r) ≤ 4
unfolding refused_text decimal_of
refused_length r = omega (arith, decimal_length 10 2 (number_of r) (number_below r) (omega arith))

ss_length : (level : Output) → length (ss_text level) ≤ 2
unfolding ss_text
ss_length Low = omega arith
ss_length High = omega arith
ss_length Undriven = omega arith

pub pin_length : (m : Module) → length (pin_text m) ≤ 5
unfolding pin_text
pin_length m = omega (arith, ss_length (ss_of m))

pub edge_length : (m : Module) → length (edge_text m) ≤ 7
unfolding edge_text
edge_length m = omega (arith, pin_length m)

done_length : (c : Call) (m : Module) → length (done_text c m) ≤ 5
unfolding done_text ok_text bytes
done_length (Pin sck sdi ss) m = pin_length m
done_length (Write register v) m = omega arith
done_length Clear m = omega arith
done_length (Read register) m = omega arith
done_length (Tick sdi ss) m = omega arith
done_length (ClockStep sck sdi ss) m = omega arith

pub answer_length : (c : Call) (a : Answer) (m : Module) → length (answer_text c a m) ≤ 7
unfolding answer_text four_hex_of bytes
answer_length c (Refused r) m = omega (arith, refused_length r)
answer_length c Done m = omega (arith, done_length c m)
answer_length c (Value v) m = omega arith
answer_length c NoEdge m = omega arith
answer_length c Edge m = edge_length m

-- What stands behind a line's number has at most seven bytes.
pub line_text_length : (m : Module) (l : Option Call) → length (line_text m l) ≤ 7
unfolding line_text
line_text_length m None = omega (arith, refused_length UnreadableLine)
line_text_length m (Some c) = answer_length c _ _

-- Five digits, a space, seven bytes and LF are no more than 16 bytes.
pub answer_line_fits : (k : ℕ) (m : Module) (l : Option Call) → k ≤ 65536 → length (answer_line k m l) ≤ 16
unfolding answer_line decimal_of
answer_line_fits k m l h =
    simp length-append (omega (arith, decimal_length 10 5 k (omega arith) (omega arith), line_text_length m l))

-- A session that has not ended has a number for its next line that fits.
next_number_fits : (input : List ℕ) (s : Session) → ended input s ≡ false → s.lines + 1 ≤ 65536
unfolding ended most_bytes
next_number_fits input s e =
    omega (arith, ltb-false most_bytes s.lines (or_right (leb (length (read_from input)) s.at) _ e))

-- The answers to a number of lines take at most 16 bytes for each.
pub answers_fit : (count : ℕ) (input : List ℕ) (s : Session) → length (answers count input s) ≤ 16 * count
unfolding answers
answers_fit zero input s = omega arith
answers_fit (suc count) input s =
    if_keeps (λ (t : List ℕ). length t ≤ 16 * suc count) (ended input s) _ _
    (λ e. omega arith)
    (λ e. simp length-append
    (omega (
      arith,
      answer_line_fits (s.lines + 1) s.spi (reading_of (line_of input s)) (next_number_fits input s e),
      answers_fit count input (line_played input s),
    )))

-- Those of a piece fit its buffer.
pub piece_fits_lem : (input : List ℕ) (s : Session) → length (piece_text input s) ≤ 4096
unfolding piece_text piece_lines
piece_fits_lem input s = omega (arith, answers_fit piece_lines input s)
