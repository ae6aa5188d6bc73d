-- What a caller is told of modules in memory: each answer as one number, levels as numbers, and the memory after a call.
use Rattle.std.specs.Prelude.{ℕ, ◌+◌, ◌*◌, Bool, true, not, List, [], ◌∷◌, ◌≡◌, eqb, Float, Result}
use Rattle.laws.specs.Choice.{when◌then◌else◌}
use Rattle.module_types.specs.declared.Module.{Module}
use Rattle.module_types.specs.declared.Refusal.{Refusal}
use Rattle.module_types.specs.declared.Answer.{Answer}
use Rattle.module_types.specs.declared.Answer.TheVariants.{Refused, Done, Value, NoEdge, Edge}
use Rattle.module_types.specs.declared.Outcome.{Outcome}
use Rattle.module_types.specs.declared.Output.{Output}
use Rattle.module_types.specs.declared.Output.TheVariants.{Low, High, Undriven}
use Rattle.module_rules.specs.Refusals.{number_of, said_of}
use Rattle.module_rules.specs.Calls.{interrupt_of, sck_of, sdo_of, ss_of}
use Rattle.link_rules.specs.declared.Linked.{Linked}
use Rattle.link_rules.specs.Link.{link_said_of}
use Rattle.clock_rules.specs.declared.ClockSaid.{ClockSaid}
use Rattle.module_memory.specs.Memory.{module_in}
use Rattle.module_answers.specs.Answered.{untouching}
use Rattle.link_calls.specs.Wire.{is_refused}

-- An answer as one number: the upper 16 bits are the refusal number, 0 if the call was not refused; the lower 16 bits are
-- the register value of a read, or the edges that a tick made, 0 or 1.
unfoldable pub answer_number : Answer → ℕ
answer_number a = (said_of a).number * 65536 + (said_of a).value + (said_of a).edges

-- A call returns the number of its definition's answer, and memory holds the definition's module. A refused call, and a
-- tick that makes no edge, leave every number of memory as it was.
pub record Tells (o : Outcome) (r : ℕ) (before after : List ℕ) : Type 0 where
  pub number : r ≡ answer_number o.answer
  pub holds : module_in after ≡ o.after
  pub untouched : untouching o.answer ≡ true → after ≡ before

-- A level that comes in: 0 is low, any other number is high.
unfoldable pub level_in : ℕ → Bool
level_in x = not (eqb x 0)

-- A pin that the module may drive takes two bits: the lower is its level, 0 if undriven, the upper whether it is driven.
unfoldable pub output_bits : Output → ℕ
output_bits Low = 2
output_bits High = 3
output_bits Undriven = 0

-- The levels that are seen: bit 0 is the interrupt flag, bit 1 SCK, bits 2 and 3 are SDO, bits 4 and 5 SS.
unfoldable pub seen_number : Bool → Bool → Output → Output → ℕ
seen_number interrupt sck sdo ss = (when interrupt then 1 else 0) + (when sck then 2 else 0) + output_bits sdo * 4 + output_bits ss * 16

unfoldable pub levels_number : Module → ℕ
levels_number m = seen_number (interrupt_of m) (sck_of m) (sdo_of m) (ss_of m)

-- A clock step (document 02, Eleven), of every module alike: the levels that are seen after it, and in bit 6 whether it made no edge. A
-- refusal has its number in the upper 16 bits, and shows nothing.
unfoldable pub step_number : Answer → ℕ → ℕ
step_number (Refused r) seen = number_of r * 65536
step_number Done seen = seen
step_number NoEdge seen = seen + 64
-- which it does not answer
step_number (Value v) seen = seen
step_number Edge seen = seen

pub record StepTells (o : Outcome) (r : ℕ) (before after : List ℕ) : Type 0 where
  pub number : r ≡ step_number o.answer (levels_number o.after)
  pub holds : module_in after ≡ o.after
  pub untouched : untouching o.answer ≡ true → after ≡ before

-- A clock report: 1 is internal, 2 external, 0 none.
unfoldable pub kind_number : Bool → Bool → ℕ
kind_number internal external = when internal then 1 else when external then 2 else 0

-- Its answer: the upper 16 bits are the refusal number, 0 if it was not refused, the lower 16 bits the kind.
unfoldable pub clock_number : ClockSaid → ℕ
clock_number s = s.number * 65536 + kind_number s.internal s.external

-- Its floats, in memory that the caller lends. A refused report leaves that as it was.
unfoldable pub clock_floats : ClockSaid → List Float → List Float
clock_floats s before = when eqb s.number 0 then s.rate ∷ s.bittime ∷ s.below ∷ [] else before

-- A clock report returns its number, and its floats stand in the lent memory.
pub record ClockTells (s : ClockSaid) (r : ℕ) (before after : List Float) : Type 0 where
  pub number : r ≡ clock_number s
  pub report : after ≡ clock_floats s before

-- The answer of a linked run: the upper 16 bits are the refusal number, 0 if it was not refused, the lower 16 bits the
-- edges used.
unfoldable pub link_number : Result ℕ Refusal → ℕ
link_number a = (link_said_of a).number * 65536 + (link_said_of a).edges

-- A linked run returns the number of its answer, and both memories hold the definition's ends. A refused one leaves every number of both memories as it was.
pub record LinkTells (l : Linked) (r : ℕ) (host hostAfter client clientAfter : List ℕ) : Type 0 where
  pub number : r ≡ link_number l.answer
  pub host_holds : module_in hostAfter ≡ l.host
  pub client_holds : module_in clientAfter ≡ l.client
  pub host_untouched : is_refused l.answer ≡ true → hostAfter ≡ host
  pub client_untouched : is_refused l.answer ≡ true → clientAfter ≡ client
