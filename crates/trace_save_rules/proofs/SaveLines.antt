-- The lines that are kept.
--     reading_plain  no line asks for a clock step
--     kept_calls_lem     the lines kept are those that name no register above 3
--     line_kept_lem      what is kept of a line is one that a record can hold
--     all_kept_lem       each of them is one that a record can hold
--     kept_ends      lines that are left out leave the module as it was
-- Assumes nothing.
use Rattle.std.specs.Prelude.{◌∷◌, ◌++◌, ◌≡◌, Option, Some, None}
use Rattle.laws.proofs.Common.{ℕ, Bool, true, false, not, List, [], refl, sym, ap, ◌∙◌, ltb-true, ltb-false}
use Rattle.laws.proofs.Common.{lt-ltb, leb-false, le-leb, lt-leb, leb, ltb, when◌then◌else◌, if_not, if_keeps, if_true, by_test}
use Rattle.laws.proofs.Common.{and_both, clash}
use Rattle.module_rules.proofs.Types.{Module, Call, Outcome, Read, Write, Tick, Pin, ClockStep, Clear}
use Rattle.module_rules.specs.RefusalTable.{asks, is_clock_step}
use Rattle.module_rules.specs.Calls.{refuse, read_of, write_of, perform_of, after_calls}
use Rattle.script_rules.specs.Script.{has_form, write_form, read_form, tick_form, tick_ss_form, pin_form, clear_form, reading_of, asked, lines_calls}
use Rattle.trace_save_rules.specs.Save.{keeps, kept_of, kept_from}
use Rattle.trace_save_rules.specs.SaveDemands.{line_kept, lines_kept}
use Rattle.trace_save_rules.proofs.SaveFile.{all_kept}

-- A call is kept exactly if it names no register above 3.
pub at_most : (a b : ℕ) → leb b a ≡ not (ltb a b)
at_most a b = by_test (ltb a b) (λ e. cc (lt-leb b a (ltb-true a b e), e)) (λ e. cc (le-leb b a (ltb-false a b e), e))

-- No line asks for a clock step.
abbrev plain : Option Call → Bool
plain None = true
plain (Some c) = not (is_clock_step c)

reading_plain : (line : List ℕ) → plain (reading_of line) ≡ true
unfolding reading_of
reading_plain line =
    let P : Option Call → Type 0 = λ (l : Option Call). plain l ≡ true in
    if_keeps P (has_form write_form line) _ _ (λ e. refl)
    (λ e.
    if_keeps P (has_form read_form line) _ _ (λ e. refl)
    (λ e.
    if_keeps P (has_form tick_form line) _ _ (λ e. refl)
    (λ e.
    if_keeps P (has_form tick_ss_form line) _ _ (λ e. refl)
    (λ e.
    if_keeps P (has_form pin_form line) _ _ (λ e. refl) (λ e. if_keeps P (has_form clear_form line) _ _ (λ e. refl) (λ e. refl))))))

keeps_is : (c : Call) → not (is_clock_step c) ≡ true → keeps c ≡ not (ltb 3 (asks c).register)
unfolding keeps
keeps_is (Read register) p = at_most 3 register
keeps_is (Write register v) p = at_most 3 register
keeps_is (Tick sdi ss) p = refl
keeps_is (Pin sck sdi ss) p = refl
keeps_is (ClockStep sck sdi ss) p = clash false p refl
keeps_is Clear p = refl

one_kept : (line : Option Call) → plain line ≡ true → kept_of line ≡ line_kept line
unfolding kept_of
one_kept None p = refl
one_kept (Some c) p = ap (λ (b : Bool). when b then c ∷ [] else []) (keeps_is c p) ∙ if_not (ltb 3 (asks c).register) (c ∷ []) []

pub kept_calls_lem : (lines : List (List ℕ)) → kept_from lines ≡ lines_kept lines
unfolding kept_from
kept_calls_lem [] = refl
kept_calls_lem (line ∷ lines) = cc (one_kept (reading_of line) (reading_plain line), kept_calls_lem lines)

-- Each of these calls is one that is kept.
kept_then : (line : Option Call) (cs : List Call) → all_kept cs ≡ true → all_kept (kept_of line ++ cs) ≡ true
unfolding kept_of
kept_then None cs e = e
kept_then (Some c) cs e =
    if_keeps (λ (kept : List Call). all_kept (kept ++ cs) ≡ true) (keeps c) _ _ (λ on. and_both (keeps c) _ on e) (λ off. e)

pub line_kept_lem : (line : Option Call) → all_kept (kept_of line) ≡ true
unfolding kept_of
line_kept_lem None = refl
line_kept_lem (Some c) = if_keeps (λ (kept : List Call). all_kept kept ≡ true) (keeps c) _ _ (λ on. and_both (keeps c) _ on refl) (λ off. refl)

pub all_kept_lem : (lines : List (List ℕ)) → all_kept (kept_from lines) ≡ true
unfolding kept_from
all_kept_lem [] = refl
all_kept_lem (line ∷ lines) = kept_then (reading_of line) (kept_from lines) (all_kept_lem lines)

-- A call that is not kept is refused, and leaves the module as it was.
unkept_unchanged : (m : Module) (c : Call) → not (is_clock_step c) ≡ true → keeps c ≡ false → (perform_of m c).after ≡ m
unfolding keeps perform_of read_of write_of refuse
unkept_unchanged m (Read register) p e = ap (λ (o : Outcome). o.after) (if_true (ltb 3 register) _ _ (lt-ltb 3 register (leb-false register 3 e)))
unkept_unchanged m (Write register v) p e = ap (λ (o : Outcome). o.after) (if_true (ltb 3 register) _ _ (lt-ltb 3 register (leb-false register 3 e)))
unkept_unchanged m (Tick sdi ss) p e = clash true refl e
unkept_unchanged m (Pin sck sdi ss) p e = clash true refl e
unkept_unchanged m (ClockStep sck sdi ss) p e = clash false p refl
unkept_unchanged m Clear p e = clash true refl e

-- The calls that a line asks for and the one that is kept lead to the same module.
line_ends : (m : Module) (line : Option Call) → plain line ≡ true → (kept all : List Call) → ((n : Module) → after_calls n kept ≡ after_calls n all) →
    after_calls m (kept_of line ++ kept) ≡ after_calls m (asked line ++ all)
unfolding kept_of asked
line_ends m None p kept all e = e m
line_ends m (Some c) p kept all e =
    if_keeps (λ (cs : List Call). after_calls m (cs ++ kept) ≡ after_calls (perform_of m c).after all) (keeps c) _ _
    (λ on. e (perform_of m c).after)
    (λ off. e m ∙ ap (λ (n : Module). after_calls n all) (sym (unkept_unchanged m c p off)))

pub kept_ends : (lines : List (List ℕ)) (m : Module) → after_calls m (kept_from lines) ≡ after_calls m (lines_calls lines)
unfolding kept_from lines_calls
kept_ends [] m = refl
kept_ends (line ∷ lines) m = line_ends m (reading_of line) (reading_plain line) (kept_from lines) (lines_calls lines) (kept_ends lines)
