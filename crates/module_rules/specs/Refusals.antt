-- Document 01, "What each refusal number says", and what answers say in numbers.
use Rattle.std.specs.Prelude.{ℕ, Bool, false, not, ◌&&◌, ◌||◌, List, [], ◌∷◌, eqb}
use Rattle.laws.specs.Choice.{when◌then◌else◌}
use Rattle.module_types.specs.declared.Settings.{Settings}
use Rattle.module_types.specs.declared.Refusal.{Refusal}
use Rattle.module_types.specs.declared.Refusal.TheVariants.{NoSuchRegister, Disabled, Enabled, TransmitFull, ReceiveEmpty, WrongClock, NoRate, UnreadableLine, DifferentModes, TooManyEdges, Undivided, LateSampling, UnselectedCke, Overflowed, NoSuchDepth}
use Rattle.module_types.specs.declared.Answer.{Answer}
use Rattle.module_types.specs.declared.Answer.TheVariants.{Refused, Done, Value, NoEdge, Edge}
use Rattle.module_types.specs.declared.Said.{Said}
use Rattle.module_rules.specs.Settings.{framed, own_clock}

-- The table's number for each refusal. This is the one place that writes them.
unfoldable pub number_of : Refusal → ℕ
-- the register number is above 3
number_of NoSuchRegister = 1
-- the module is disabled: BUF read or write, tick, pin call, clock step, linked run
number_of Disabled = 2
-- CON1 or CON2 is written while SPIEN is 1
number_of Enabled = 3
-- a BUF write finds the transmit buffer full
number_of TransmitFull = 5
-- a BUF read finds the receive buffer empty
number_of ReceiveEmpty = 6
-- a tick on a module clocked from its pin, a pin call on a host with its own clock, or wrong roles or a framed module in a
-- linked run
number_of WrongClock = 7
-- a clock report is asked for the instruction rate 0
number_of NoRate = 8
-- a script line cannot be read
number_of UnreadableLine = 9
-- linked modules differ in CKP, CKE or width
number_of DifferentModes = 10
-- a linked run is asked for more edges than one host can owe
number_of TooManyEdges = 11
-- Request One: a STAT write would enable settings that are not modelled or not allowed. 4 told these as one, and 12 told of
-- framing until request Three.
-- a host with its own clock has both prescalers at 1:1
number_of Undivided = 13
-- SMP is set
number_of LateSampling = 14
-- an unframed client has CKE and no SSEN
number_of UnselectedCke = 15
-- Request Four: a BUF read while the receive buffer is marked
number_of Overflowed = 16
-- Request Twelve: a depth other than 4, 8 and 16 at power-up
number_of NoSuchDepth = 25

-- What an answer says in the paper's numbers. Its kind has a number of its own, so that no two answers say the same.
abbrev pub said_of : Answer → Said
said_of (Refused r) = record { kind = 0; number = number_of r; value = 0; edges = 0 }
said_of Done = record { kind = 1; number = 0; value = 0; edges = 0 }
said_of (Value v) = record { kind = 2; number = 0; value = v; edges = 0 }
said_of NoEdge = record { kind = 3; number = 0; value = 0; edges = 0 }
said_of Edge = record { kind = 4; number = 0; value = 0; edges = 1 }

abbrev pub is_done : Answer → Bool
is_done a = eqb (said_of a).kind 1

abbrev pub is_value : Answer → Bool
is_value a = eqb (said_of a).kind 2

abbrev pub is_edge : Answer → Bool
is_edge a = eqb (said_of a).kind 4

-- Why settings cannot be enabled. A cause is a refusal and whether it is given.
pub record Cause : Type 0 where
  pub why : Refusal
  pub given : Bool

-- a host with its own clock has both prescalers at 1:1: PPRE 3 and SPRE 7
abbrev pub undivided : Settings → Bool
undivided s = own_clock s && (eqb s.con1.ppre 3 && eqb s.con1.spre 7)

-- SMP is set, in any role
abbrev pub late_sampling : Settings → Bool
late_sampling s = s.con1.smp

-- an unframed client has CKE and no SSEN
abbrev pub unselected_cke : Settings → Bool
unselected_cke s = not (framed s) && (not s.con1.msten && (s.con1.cke && not s.con1.ssen))

-- The causes, in the order in which they are looked at.
abbrev pub causes : Settings → List Cause
causes s =
    record { why = Undivided; given = undivided s }
    ∷ record { why = LateSampling; given = late_sampling s }
    ∷ record { why = UnselectedCke; given = unselected_cke s }
    ∷ []

abbrev pub any_given : List Cause → Bool
any_given [] = false
any_given (c ∷ []) = c.given
any_given (c ∷ (d ∷ rest)) = c.given || any_given (d ∷ rest)

-- Whether any is given, and the first that is.
abbrev pub bad_settings : Settings → Bool
bad_settings s = any_given (causes s)

abbrev pub first_given : List Cause → Refusal
first_given [] = Undivided
first_given (c ∷ []) = c.why
first_given (c ∷ (d ∷ rest)) = when c.given then c.why else first_given (d ∷ rest)
