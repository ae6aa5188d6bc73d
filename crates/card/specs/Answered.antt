-- What a call on a card in memory comes to: its answer, also as a number, and the card that memory then holds.
use Rattle.std.specs.Prelude.{ℕ, ◌+◌, ◌*◌, true, List, ◌≡◌, ltb, Result, Ok, Err}
use Rattle.card_rules.specs.Calls as rules
use Rattle.card_rules.specs.Calls.{Answer, refused, done, value, Outcome, said_of}
use Rattle.card.specs.declared.Refusal.{Refusal}
use Rattle.card.specs.declared.Refusal.TheVariants.{Disabled, Enabled, TransmitFull, ReceiveEmpty, NotNamed}
use Rattle.card.specs.Memory.{card_in}

-- A refusal in the rules' words, and what is answered, where a call is done and where it reads a sample.
abbrev pub why_of : Refusal → rules.Refusal
why_of Disabled = rules.is_disabled
why_of Enabled = rules.is_enabled
why_of TransmitFull = rules.transmit_full
why_of ReceiveEmpty = rules.receive_empty
why_of NotNamed = rules.not_named

abbrev pub done_in : Result (Unit {0}) Refusal → Answer
done_in (Ok x) = done
done_in (Err why) = refused (why_of why)

abbrev pub sample_in : Result ℕ Refusal → Answer
sample_in (Ok sample) = value sample
sample_in (Err why) = refused (why_of why)

-- A call answers as its definition says, and memory then holds the definition's card; a refused call leaves every number as it was.
pub record Gives (o : Outcome) (a : Answer) (before after : List ℕ) : Type 0 where
  pub answer : a ≡ o.answer
  pub card : card_in after ≡ o.after
  pub untouched : (why : rules.Refusal) → a ≡ refused why → after ≡ before

-- An answer as a number: the refusal number above the lower 32 bits, and the sample that was read in them.
abbrev pub answer_number : Answer → ℕ
answer_number a = (said_of a).number * 4294967296 + (said_of a).told

-- The same of an answer that is a number.
pub record Tells (o : Outcome) (r : ℕ) (before after : List ℕ) : Type 0 where
  pub answer : r ≡ answer_number o.answer
  pub card : card_in after ≡ o.after
  pub untouched : ltb 0 (said_of o.answer).number ≡ true → after ≡ before
