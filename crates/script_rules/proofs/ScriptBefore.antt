-- Scripts use the clock step beneath ticks and pin calls (document 02, Eleven), and no output has moved.
--     output_as_before   a script's output is what it was with tick and pin call as they were
--     wrong_kind         a T line for a module clocked from its pin, and a P line for a host with its own clock, give 7
-- Assumes nothing.
use Rattle.std.specs.Prelude.{◌+◌, ◌∷◌, ◌++◌, ◌≡◌, Option, Some, None}
use Rattle.laws.proofs.Common.{ℕ, Bool, true, false, not, List, [], refl, ap, ap₂, ◌∙◌, if_true}
use Rattle.laws.proofs.Common.{if_false}
use Rattle.module_types.specs.declared.Call.{Call}
use Rattle.module_rules.proofs.Types.{Module, Outcome, WrongClock, UnreadableLine, Tick, Pin}
use Rattle.module_rules.specs.Settings.{own_clock}
use Rattle.module_rules.specs.Calls.{refuse, powered_up, tick_of, pins_of, perform_of}
use Rattle.module_rules.proofs.ClockSteps.{perform_before, performs_as_before}
use Rattle.script_rules.specs.Script.{read_from, lines_of, reading_of, decimal_of, space, lf, refused_text, answer_text, line_text, line_after, answer_line, answers_from, script_output}

-- The text of a line, the module after it, and the answers to some lines, with the calls as they were.
abbrev text_before : Module → Option Call → List ℕ
text_before m None = refused_text UnreadableLine
text_before m (Some c) = answer_text c (perform_before m c).answer (perform_before m c).after

abbrev after_before : Module → Option Call → Module
after_before m None = m
after_before m (Some c) = (perform_before m c).after

abbrev answers_before : Module → ℕ → List (List ℕ) → List ℕ
answers_before m answered [] = []
answers_before m answered (line ∷ lines) =
    (decimal_of (answered + 1) ++ (space ∷ (text_before m (reading_of line) ++ (lf ∷ []))))
    ++ answers_before (after_before m (reading_of line)) (answered + 1) lines

text_as_before : (m : Module) (l : Option Call) → line_text m l ≡ text_before m l
unfolding line_text
text_as_before m None = refl
text_as_before m (Some c) = ap (λ (o : Outcome). answer_text c o.answer o.after) (performs_as_before m c)

after_as_before : (m : Module) (l : Option Call) → line_after m l ≡ after_before m l
unfolding line_after
after_as_before m None = refl
after_as_before m (Some c) = ap (λ (o : Outcome). o.after) (performs_as_before m c)

answers_as_before : (lines : List (List ℕ)) (m : Module) (answered : ℕ) → answers_from m answered lines ≡ answers_before m answered lines
unfolding answers_from answer_line
answers_as_before [] m answered = refl
answers_as_before (line ∷ lines) m answered =
    ap₂
    (λ (text rest : List ℕ). (decimal_of (answered + 1) ++ (space ∷ (text ++ (lf ∷ [])))) ++ rest)
    (text_as_before m (reading_of line))
    (answers_as_before lines (line_after m (reading_of line)) (answered + 1)
    ∙ ap (λ (n : Module). answers_before n (answered + 1) lines) (after_as_before m (reading_of line)))

pub output_as_before : (input : List ℕ) → script_output input ≡ answers_before powered_up 0 (lines_of (read_from input))
unfolding script_output
output_as_before input = answers_as_before (lines_of (read_from input)) powered_up 0

-- The wrong kind of module.
pub wrong_kind : (m : Module) (sck sdi ss : Bool) → m.settings.spien ≡ true →
    (own_clock m.settings ≡ false → line_text m (Some (Tick sdi ss)) ≡ refused_text WrongClock)
    × (own_clock m.settings ≡ true → line_text m (Some (Pin sck sdi ss)) ≡ refused_text WrongClock)
unfolding line_text perform_of tick_of pins_of refuse answer_text
wrong_kind m sck sdi ss on = (
  λ pin.
      ap (λ (o : Outcome). answer_text (Tick sdi ss) o.answer o.after)
      (if_false (not m.settings.spien) _ _ (ap not on) ∙ if_true (not (own_clock m.settings)) _ _ (ap not pin)),
  λ own.
      ap (λ (o : Outcome). answer_text (Pin sck sdi ss) o.answer o.after)
      (if_false (not m.settings.spien) _ _ (ap not on) ∙ if_true (own_clock m.settings) _ _ own),
)
