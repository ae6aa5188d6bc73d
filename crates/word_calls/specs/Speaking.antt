-- What a word call on a module in memory comes to.
use Rattle.std.specs.Prelude.{ℕ, ◌+◌, ◌*◌, ◌%◌, true, List, ◌≡◌}
use Rattle.laws.specs.Choice.{when◌then◌else◌}
use Rattle.module_types.specs.declared.Module.{Module}
use Rattle.module_types.specs.declared.Answer.{Answer}
use Rattle.module_types.specs.declared.Answer.TheVariants.{Refused, Done, Value, NoEdge, Edge}
use Rattle.module_rules.specs.Refusals.{number_of}
use Rattle.word_rules.specs.declared.Worded.{Worded}
use Rattle.word_rules.specs.Word.{current, sends_next}
use Rattle.module_memory.specs.Memory.{module_in}
use Rattle.module_answers.specs.Answered.{untouching}

-- It answers as the definition says, and memory then holds the definition's module. A refusal and "no edge" leave every number as it was.
pub record Speaks (o : Worded) (a : Answer) (n v : ℕ) (before after : List ℕ) : Type 0 where
  pub answer : a ≡ o.answer
  pub count : n ≡ o.count
  pub levels : v ≡ o.levels
  pub holds : module_in after ≡ o.after
  pub untouched : untouching a ≡ true → after ≡ before

-- The answer as one number: the levels in the lower 16 bits, how many they are from bit 24 on, and in bit 29 whether there was no edge. A refusal has
-- its number in bits 16 to 23, and tells nothing else.
unfoldable pub word_number : Answer → ℕ → ℕ → ℕ
word_number (Refused r) count levels = number_of r * 65536
word_number Done count levels = levels % 65536 + count % 32 * 16777216
word_number NoEdge count levels = 536870912
-- which it does not answer
word_number (Value v) count levels = levels % 65536 + count % 32 * 16777216
word_number Edge count levels = levels % 65536 + count % 32 * 16777216

pub record WordTells (o : Worded) (r : ℕ) (before after : List ℕ) : Type 0 where
  pub number : r ≡ word_number o.answer o.count o.levels
  pub holds : module_in after ≡ o.after
  pub untouched : untouching o.answer ≡ true → after ≡ before

-- The word that would go out next, with bit 16 set; 0 if there is none.
unfoldable pub next_number : Module → ℕ
next_number m = when sends_next m then 65536 + (current m.settings m.engine).word else 0
