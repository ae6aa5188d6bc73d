-- Document 02, Seven: a board of one to four modules, SPI1 first, numbered from 0. A board is a list of modules. A call names one
-- of them, a linked run two.
use Rattle.std.specs.Prelude.{ℕ, Bool, ◌||◌, List, [], ◌∷◌, eqb, leb, ltb, length, get_or, set, Result, Ok, Err}
use Rattle.laws.specs.Choice.{when◌then◌else◌}
use Rattle.module_types.specs.declared.Module.{Module}
use Rattle.module_types.specs.declared.Refusal.{Refusal}
use Rattle.module_types.specs.declared.Outcome.{Outcome}
use Rattle.module_rules.specs.Calls.{powered_up, power_up_of, clock_step_of, perform_of, interrupt_of, sck_of, sdo_of, ss_of}
use Rattle.link_rules.specs.declared.Linked.{Linked}
use Rattle.link_rules.specs.Link.{linked_of}
use Rattle.clock_rules.specs.Clock.{report_of}
use Rattle.word_rules.specs.Word.{word_of}
use Rattle.board_rules.specs.declared.BoardCall.{BoardCall}
use Rattle.board_rules.specs.declared.BoardCall.TheVariants.{PowerUp, PowerUpAt, Make, Report, Look, StepAndLook, MakeWord}
use Rattle.board_rules.specs.declared.Seen.{Seen}
use Rattle.board_rules.specs.declared.BoardFault.{BoardFault}
use Rattle.board_rules.specs.declared.BoardFault.TheVariants.{BadList, NoModule}
use Rattle.board_rules.specs.declared.BoardAnswer.{BoardAnswer}
use Rattle.board_rules.specs.declared.BoardAnswer.TheVariants.{Refused, Powered, Made, Told, Shown, Stepped, Worded}

-- What a call of one module comes to: its answer, and the list after it.
pub record Boarded : Type 0 where
  pub answer : BoardAnswer
  pub after : List Module

-- The same of a linked run: what the two modules alone answer, or why the board refuses it.
pub record Paired : Type 0 where
  pub answer : Result (Result ℕ Refusal) BoardFault
  pub after : List Module

-- The table's number for each fault.
unfoldable pub board_number_of : BoardFault → ℕ
-- the list's length is outside 1 to 4
board_number_of BadList = 21
-- no such module, or the same one twice
board_number_of NoModule = 22

-- 21: a list has one to four modules.
unfoldable pub bad_list : List Module → Bool
bad_list ms = ltb (length ms) 1 || ltb 4 (length ms)

-- 22: modules are numbered from 0, and a linked run takes two different ones.
unfoldable pub no_module : List Module → ℕ → Bool
no_module ms n = leb (length ms) n

unfoldable pub no_pair : List Module → ℕ → ℕ → Bool
no_pair ms a b = no_module ms a || (no_module ms b || eqb a b)

-- The module that a call names.
unfoldable pub module_at : List Module → ℕ → Module
module_at ms n = get_or ms n powered_up

-- What is seen of a module.
unfoldable pub seen_of : Module → Seen
seen_of m = record { interrupt = interrupt_of m; sck = sck_of m; sdo = sdo_of m; ss = ss_of m }

-- A clock step answers, of every module alike, no edge or done, and what is seen after it (document 02, Eleven).
abbrev pub stepped_as : Outcome → BoardAnswer
stepped_as o = Stepped o.answer (seen_of o.after)

-- What a module alone answers to a call, and the module after it. A report and a look change nothing. A word at a time is the call of
-- word_rules, which 2 alone refuses.
unfoldable pub answer_alone : Module → BoardCall → BoardAnswer
answer_alone m PowerUp = Powered
answer_alone m (PowerUpAt words) = Made (power_up_of m words).answer
answer_alone m (Make c) = Made (perform_of m c).answer
answer_alone m (Report f) = Told (report_of m f)
answer_alone m Look = Shown (seen_of m)
answer_alone m (StepAndLook sck sdi ss) = stepped_as (clock_step_of m sck sdi ss)
answer_alone m (MakeWord ss word) = Worded (word_of m ss word).answer (word_of m ss word).count (word_of m ss word).levels

unfoldable pub after_alone : Module → BoardCall → Module
after_alone m PowerUp = powered_up
after_alone m (PowerUpAt words) = (power_up_of m words).after
after_alone m (Make c) = (perform_of m c).after
after_alone m (Report f) = m
after_alone m Look = m
after_alone m (StepAndLook sck sdi ss) = (clock_step_of m sck sdi ss).after
after_alone m (MakeWord ss word) = (word_of m ss word).after

-- A refusal leaves the list as it was.
unfoldable pub refuse_call : List Module → BoardFault → Boarded
refuse_call ms w = record { answer = Refused w; after = ms }

unfoldable pub refuse_pair : List Module → BoardFault → Paired
refuse_pair ms w = record { answer = Err w; after = ms }

-- A call of one module: 21, then 22, then what the module alone answers. Its record is replaced, the rest stay.
unfoldable pub board_of : List Module → ℕ → BoardCall → Boarded
board_of ms n c =
    when bad_list ms then refuse_call ms BadList
    else when no_module ms n then refuse_call ms NoModule
    else record { answer = answer_alone (module_at ms n) c; after = set ms n (after_alone (module_at ms n) c) }

-- A linked run of host `a` and client `b`: 21, then 22, then what the two alone answer. Their records are replaced, the rest stay.
unfoldable pub ran_of : List Module → ℕ → ℕ → Linked → Paired
ran_of ms a b l = record { answer = Ok l.answer; after = set (set ms a l.host) b l.client }

unfoldable pub pair_of : List Module → ℕ → ℕ → ℕ → Paired
pair_of ms a b limit =
    when bad_list ms then refuse_pair ms BadList
    else when no_pair ms a b then refuse_pair ms NoModule
    else ran_of ms a b (linked_of (module_at ms a) (module_at ms b) limit)

-- A step of the board: a call of one module, or a linked run of two; and the list after some steps.
pub data BoardStep : Type 0 where
  one : ℕ → BoardCall → BoardStep
  two : ℕ → ℕ → ℕ → BoardStep

unfoldable pub board_stepped : List Module → BoardStep → List Module
board_stepped ms (one n c) = (board_of ms n c).after
board_stepped ms (two a b limit) = (pair_of ms a b limit).after

unfoldable pub board_after : List Module → List BoardStep → List Module
board_after ms [] = ms
board_after ms (s ∷ ss) = board_after (board_stepped ms s) ss
