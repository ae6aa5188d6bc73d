-- Request Ten, "Refusals", and what answers say in numbers.
use Rattle.std.specs.Prelude.{ℕ}
use Rattle.ti_rules.specs.declared.Refusal.{Refusal}
use Rattle.ti_rules.specs.declared.Refusal.TheVariants.{InReset, OutOfReset, TransmitFull, ReceiveEmpty, WrongClock, WrongLength}
use Rattle.ti_rules.specs.declared.Answer.{Answer}
use Rattle.ti_rules.specs.declared.Answer.TheVariants.{Refused, Done, Value, NoEdge, Edge}

-- The number of each refusal. This is the one place that writes them.
unfoldable pub number_of : Refusal → ℕ
-- a buffer read or write, a tick or a pin call in software reset
number_of InReset = 2
-- a length, or another master, polarity or phase, is set out of reset
number_of OutOfReset = 3
-- a write finds a character waiting
number_of TransmitFull = 5
-- a read finds nothing unread
number_of ReceiveEmpty = 6
-- a tick of a slave, or a pin call of a master
number_of WrongClock = 7
-- a length of 0 or above 16
number_of WrongLength = 24

-- What an answer says: its kind, the refusal number, the value, and the edges that were made, each 0 if there is none.
pub record Said : Type 0 where
  pub kind : ℕ
  pub number : ℕ
  pub value : ℕ
  pub edges : ℕ

abbrev pub said_of : Answer → Said
said_of (Refused r) = record { kind = 0; number = number_of r; value = 0; edges = 0 }
said_of Done = record { kind = 1; number = 0; value = 0; edges = 0 }
said_of (Value v) = record { kind = 2; number = 0; value = v; edges = 0 }
said_of NoEdge = record { kind = 3; number = 0; value = 0; edges = 0 }
said_of Edge = record { kind = 4; number = 0; value = 0; edges = 1 }
