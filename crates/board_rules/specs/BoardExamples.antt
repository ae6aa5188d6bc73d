-- Document 02, Seven: boards with what calls must answer, and what must stand in each module afterwards.
-- proofs/BoardExamplesHold.antt runs the definitions on them.
use Rattle.std.specs.Prelude.{ℕ, Bool, true, false, ◌&&◌, List, [], ◌∷◌, eqb, replicate, Result, Ok, Err}
use Rattle.module_types.specs.declared.Module.{Module}
use Rattle.module_types.specs.declared.Refusal.{Refusal}
use Rattle.module_types.specs.declared.Call.TheVariants.{Read, Write}
use Rattle.module_rules.specs.Refusals.{said_of}
use Rattle.module_rules.specs.Registers.{con1_value, stat_value}
use Rattle.module_rules.specs.Calls.{powered_up}
use Rattle.link_rules.specs.Link.{link_said_of}
use Rattle.clock_rules.specs.Clock.{said_clock}
use Rattle.board_rules.specs.declared.BoardCall.{BoardCall}
use Rattle.board_rules.specs.declared.BoardCall.TheVariants.{PowerUp, PowerUpAt, Make, Report, Look, StepAndLook, MakeWord}
use Rattle.board_rules.specs.declared.BoardFault.{BoardFault}
use Rattle.board_rules.specs.declared.BoardAnswer.{BoardAnswer}
use Rattle.board_rules.specs.declared.BoardAnswer.TheVariants.{Refused, Powered, Made, Told, Shown, Stepped, Worded}
use Rattle.board_rules.specs.Board.{board_number_of, board_of, pair_of, BoardStep, one, two, board_after}

-- So many modules at power-up, and after some steps.
abbrev pub fresh : ℕ → List Module
fresh size = replicate size powered_up

abbrev pub after : ℕ → List BoardStep → List Module
after size steps = board_after (fresh size) steps

-- The refusal number of an answer, 0 if none, and its value.
abbrev pub refused_with : BoardAnswer → ℕ
refused_with (Refused w) = board_number_of w
refused_with Powered = 0
refused_with (Made a) = (said_of a).number
refused_with (Told r) = (said_clock r).number
refused_with (Shown s) = 0
refused_with (Stepped a s) = (said_of a).number
refused_with (Worded a count levels) = (said_of a).number

abbrev pub value_of : BoardAnswer → ℕ
value_of (Refused w) = 0
value_of Powered = 0
value_of (Made a) = (said_of a).value
value_of (Told r) = 0
value_of (Shown s) = 0
value_of (Stepped a s) = 0
value_of (Worded a count levels) = levels

abbrev pub pair_refused_with : Result (Result ℕ Refusal) BoardFault → ℕ
pair_refused_with (Err w) = board_number_of w
pair_refused_with (Ok a) = (link_said_of a).number

abbrev pub edges_of : Result (Result ℕ Refusal) BoardFault → ℕ
edges_of (Err w) = 0
edges_of (Ok a) = (link_said_of a).edges

-- A call is refused with this number, 0 if not at all; a BUF read gives this word; a word at a time sends this one; a linked run is refused with
-- this number; it uses so many edges.
abbrev pub gives : List Module → ℕ → BoardCall → ℕ → Bool
gives ms n c number = eqb (refused_with (board_of ms n c).answer) number

abbrev pub reads : List Module → ℕ → ℕ → Bool
reads ms n word = gives ms n (Make (Read 3)) 0 && eqb (value_of (board_of ms n (Make (Read 3))).answer) word

abbrev pub sends : List Module → ℕ → ℕ → ℕ → Bool
sends ms n word sent = gives ms n (MakeWord false word) 0 && eqb (value_of (board_of ms n (MakeWord false word)).answer) sent

abbrev pub pair_gives : List Module → ℕ → ℕ → ℕ → ℕ → Bool
pair_gives ms a b limit number = eqb (pair_refused_with (pair_of ms a b limit).answer) number

abbrev pub uses : List Module → ℕ → ℕ → ℕ → ℕ → Bool
uses ms a b limit edges = pair_gives ms a b limit 0 && eqb (edges_of (pair_of ms a b limit).answer) edges

-- STAT and CON1 of each module, in order.
abbrev pub shows : List Module → List ℕ → Bool
shows [] [] = true
shows [] (v ∷ vs) = false
shows (m ∷ ms) [] = false
shows (m ∷ ms) (v ∷ []) = false
shows (m ∷ ms) (stat ∷ (con1 ∷ rest)) = (eqb (stat_value m) stat && eqb (con1_value m.settings.con1) con1) && shows ms rest

abbrev pub every : List Bool → Bool
every [] = true
every (b ∷ bs) = b && every bs

abbrev pub write : ℕ → ℕ → BoardCall
write register v = Make (Write register v)

-- Of four modules, a host at 1 with A5 to send and a client at 3 with 3C.
abbrev pub ready : List BoardStep
ready =
    one 1 (write 1 0x0020) ∷ one 1 (write 0 0x8000) ∷ one 1 (write 3 0x00A5)
    ∷ one 3 (write 0 0x8000) ∷ one 3 (write 3 0x003C)
    ∷ []

-- The same after a linked run of 16 edges, and after a word of the host alone, which took 5A.
abbrev pub ran : List Module
ran = board_after (after 4 ready) (two 1 3 16 ∷ [])

abbrev pub worded : List Module
worded = board_after (after 4 ready) (one 1 (MakeWord true 0x005A) ∷ [])

abbrev pub board_examples : Bool
board_examples =
    every (
    -- a list of no module and one of five; one and four are right
    gives [] 0 PowerUp 21
    ∷ gives (fresh 5) 0 PowerUp 21
    ∷ gives (fresh 1) 0 PowerUp 0
    ∷ gives (fresh 4) 3 PowerUp 0
    ∷ gives (fresh 5) 0 (PowerUpAt 12) 21
    ∷ gives (fresh 4) 4 (PowerUpAt 12) 22
    ∷ gives (fresh 4) 3 (PowerUpAt 12) 25
    ∷ gives (fresh 4) 3 (PowerUpAt 16) 0
    ∷ pair_gives (fresh 5) 0 1 16 21
    -- no such module, before 1 and 8; and after 21
    ∷ gives (fresh 4) 4 (Make (Read 9)) 22
    ∷ gives (fresh 4) 3 (Make (Read 9)) 1
    ∷ gives (fresh 2) 2 (Report 0) 22
    ∷ gives (fresh 2) 1 (Report 0) 8
    ∷ gives (fresh 1) 1 Look 22
    ∷ gives [] 9 Look 21
    -- a clock step (document 02, Eleven): 21, 22, then 2
    ∷ gives (fresh 5) 5 (StepAndLook true true true) 21
    ∷ gives (fresh 4) 4 (StepAndLook true true true) 22
    ∷ gives (fresh 4) 3 (StepAndLook true true true) 2
    ∷ gives (after 4 ready) 1 (StepAndLook true true true) 0
    ∷ gives (after 4 ready) 3 (StepAndLook true true true) 0
    -- a word at a time: 21, 22, then 2; a host with no word to send has no edge to make
    ∷ gives (fresh 5) 5 (MakeWord true 0x5A) 21
    ∷ gives (fresh 4) 4 (MakeWord true 0x5A) 22
    ∷ gives (fresh 4) 3 (MakeWord true 0x5A) 2
    ∷ sends (after 4 ready) 1 0x005A 0x00A5
    ∷ sends (after 4 ready) 3 0x005A 0x003C
    ∷ sends worded 1 0x005A 0x0000
    -- no such module, and the same one twice, before 11; and after 21
    ∷ pair_gives (fresh 4) 4 0 545 22
    ∷ pair_gives (fresh 4) 0 4 545 22
    ∷ pair_gives (fresh 4) 2 2 545 22
    ∷ pair_gives (fresh 4) 2 3 545 11
    ∷ pair_gives (fresh 4) 2 3 544 2
    ∷ pair_gives [] 2 2 545 21
    -- a call changes the module that it names
    ∷ shows (after 4 ready) (0x0000 ∷ 0x0000 ∷ 0x8000 ∷ 0x0020 ∷ 0x0000 ∷ 0x0000 ∷ 0x8000 ∷ 0x0000 ∷ [])
    ∷ shows (board_after (after 4 ready) (one 1 PowerUp ∷ [])) (0x0000 ∷ 0x0000 ∷ 0x0000 ∷ 0x0000 ∷ 0x0000 ∷ 0x0000 ∷ 0x8000 ∷ 0x0000 ∷ [])
    -- so does a word at a time: the host reads 5A, the client has received nothing and still sends 3C
    ∷ shows worded (0x0000 ∷ 0x0000 ∷ 0x8001 ∷ 0x0020 ∷ 0x0000 ∷ 0x0000 ∷ 0x8000 ∷ 0x0000 ∷ [])
    ∷ reads worded 1 0x005A
    ∷ gives worded 3 (Make (Read 3)) 6
    ∷ sends worded 3 0x005A 0x003C
    -- a linked run changes two: the host reads 3C, the client A5
    ∷ uses (after 4 ready) 1 3 16 16
    ∷ shows ran (0x0000 ∷ 0x0000 ∷ 0x8001 ∷ 0x0020 ∷ 0x0000 ∷ 0x0000 ∷ 0x8001 ∷ 0x0000 ∷ [])
    ∷ reads ran 1 0x003C
    ∷ reads ran 3 0x00A5
    ∷ gives ran 0 (Make (Read 3)) 2
    -- in the other roles it is refused
    ∷ pair_gives (after 4 ready) 3 1 16 7
    ∷ []
    )
