-- Document 01, "Checked examples", and cases of document 02: each as calls from power-up with what they must answer and show.
-- proofs/ExamplesHold.antt proves them together, as one list.
use Rattle.std.specs.Prelude.{ℕ, zero, suc, ◌*◌, ◌-◌, Bool, true, false, ◌&&◌, List, [], ◌∷◌, ◌++◌, map, eqb, replicate}
use Rattle.std.specs.Bool.{beq}
use Rattle.laws.specs.Choice.{when◌then◌else◌}
use Rattle.module_types.specs.declared.Module.{Module}
use Rattle.module_types.specs.declared.Said.{Said}
use Rattle.module_types.specs.declared.Call.{Call}
use Rattle.module_types.specs.declared.Call.TheVariants.{Read, Write, Tick, Pin, ClockStep, Clear}
use Rattle.module_types.specs.declared.Output.{Output}
use Rattle.module_types.specs.declared.Output.TheVariants.{Low, High, Undriven}
use Rattle.module_rules.specs.Refusals.{said_of}
use Rattle.module_rules.specs.Calls.{powered_up, power_up_of, perform_of, interrupt_of, sck_of, sdo_of, ss_of}

-- One step of an example: a call with what its answer must say, what SDO must show, what SS must show, how the interrupt flag
-- must stand, or the level of SCK.
pub data ExampleStep : Type 0 where
  says : Call → Said → ExampleStep
  shows : Output → ExampleStep
  drives : Output → ExampleStep
  flagged : Bool → ExampleStep
  clock_at : Bool → ExampleStep

-- What answers say: done, a register value, no edge, an edge, and a refusal.
abbrev pub ok : Said
ok = record { kind = 1; number = 0; value = 0; edges = 0 }

abbrev pub value : ℕ → Said
value v = record { kind = 2; number = 0; value = v; edges = 0 }

abbrev pub no_edge : Said
no_edge = record { kind = 3; number = 0; value = 0; edges = 0 }

abbrev pub edge : Said
edge = record { kind = 4; number = 0; value = 0; edges = 1 }

abbrev pub refused : ℕ → Said
refused n = record { kind = 0; number = n; value = 0; edges = 0 }

-- Two answers say the same.
abbrev pub same_said : Said → Said → Bool
same_said a b =
    eqb a.kind b.kind
    && (eqb a.number b.number && (eqb a.value b.value && eqb a.edges b.edges))

abbrev pub same_output : Output → Output → Bool
same_output Low Low = true
same_output Low High = false
same_output Low Undriven = false
same_output High Low = false
same_output High High = true
same_output High Undriven = false
same_output Undriven Low = false
same_output Undriven High = false
same_output Undriven Undriven = true

-- Every step holds, one after the other, from a module on.
abbrev pub all_hold : Module → List ExampleStep → Bool
all_hold m [] = true
all_hold m (says c a ∷ rest) = same_said (said_of (perform_of m c).answer) a && all_hold (perform_of m c).after rest
all_hold m (shows level ∷ rest) = same_output (sdo_of m) level && all_hold m rest
all_hold m (drives level ∷ rest) = same_output (ss_of m) level && all_hold m rest
all_hold m (flagged flag ∷ rest) = beq (interrupt_of m) flag && all_hold m rest
all_hold m (clock_at level ∷ rest) = beq (sck_of m) level && all_hold m rest

-- The module after the calls of some steps.
abbrev pub after_steps : Module → List ExampleStep → Module
after_steps m [] = m
after_steps m (says c a ∷ rest) = after_steps (perform_of m c).after rest
after_steps m (shows level ∷ rest) = after_steps m rest
after_steps m (drives level ∷ rest) = after_steps m rest
after_steps m (flagged flag ∷ rest) = after_steps m rest
after_steps m (clock_at level ∷ rest) = after_steps m rest

-- A module is configured and enabled.
abbrev pub set_up : ℕ → ℕ → List ExampleStep
set_up con1 con2 = says (Write 1 con1) ok ∷ says (Write 2 con2) ok ∷ says (Write 0 0x8000) ok ∷ []

-- Ticks that each make an edge.
abbrev pub tick_edges : ℕ → List ExampleStep
tick_edges count = replicate count (says (Tick true false) edge)

-- Bits sent by a host with CKE 0: two ticks each, and SDO shows the bit after both.
abbrev pub sends : List Output → List ExampleStep
sends [] = []
sends (bit ∷ bits) = says (Tick true false) edge ∷ shows bit ∷ says (Tick true false) edge ∷ shows bit ∷ sends bits

-- Bits sent by a selected client with CKE 0 and CKP 0: an edge up and an edge down each, and SDO shows the bit after
-- both. SDI is high.
abbrev pub clocks_out : List Output → List ExampleStep
clocks_out [] = []
clocks_out (bit ∷ bits) =
    says (Pin true true false) ok ∷ shows bit ∷ says (Pin false true false) ok ∷ shows bit ∷ clocks_out bits

-- Clocks by pin calls from the idle level 0, with a level of SDI at either edge, and one of SS.
abbrev pub clocked_by : ℕ → Bool → Bool → Bool → List ExampleStep
clocked_by zero first second ss = []
clocked_by (suc n) first second ss = says (Pin true first ss) ok ∷ says (Pin false second ss) ok ∷ clocked_by n first second ss

-- The bits of A5, highest first.
abbrev pub bits_of_a5 : List Output
bits_of_a5 = High ∷ Low ∷ High ∷ Low ∷ Low ∷ High ∷ Low ∷ High ∷ []

-- a. Power-up STAT reads 0000.
abbrev pub example_a : List ExampleStep
example_a = says (Read 0) (value 0x0000) ∷ []

-- b. CON1 003F: enabling gives 13 (document 02, One).
abbrev pub example_b : List ExampleStep
example_b = says (Write 1 0x003F) ok ∷ says (Write 0 0x8000) (refused 13) ∷ []

-- c. CON1 003B: enabled.
abbrev pub example_c : List ExampleStep
example_c = says (Write 1 0x003B) ok ∷ says (Write 0 0x8000) ok ∷ says (Read 0) (value 0x8000) ∷ []

-- d. CON1 0100: enabling gives 15 (document 02, One).
abbrev pub example_d : List ExampleStep
example_d = says (Write 1 0x0100) ok ∷ says (Write 0 0x8000) (refused 15) ∷ []

-- e. CON1 0180: enabled.
abbrev pub example_e : List ExampleStep
example_e = says (Write 1 0x0180) ok ∷ says (Write 0 0x8000) ok ∷ says (Read 0) (value 0x8000) ∷ []

-- f. An 8-bit write of 01A5 sends A5.
abbrev pub example_f : List ExampleStep
example_f = set_up 0x0020 0x0000 ++ (says (Write 3 0x01A5) ok ∷ sends bits_of_a5 ++ (says (Tick true false) no_edge ∷ []))

-- g. A standard idle host: two writes are accepted, the third gives 5.
abbrev pub example_g : List ExampleStep
example_g = set_up 0x0020 0x0000 ++ (says (Write 3 1) ok ∷ says (Write 3 2) ok ∷ says (Write 3 3) (refused 5) ∷ [])

-- h. An enhanced idle host, SISEL 0: nine are accepted, STAT is 8722, the tenth gives 5.
abbrev pub example_h : List ExampleStep
example_h =
    set_up 0x0020 0x0001
    ++ (replicate 9 (says (Write 3 0x0081) ok)
    ++ (says (Read 0) (value 0x8722) ∷ says (Write 3 0x0081) (refused 5) ∷ []))

-- i. Those nine sent unread: eight are held, STAT is 80C1.
abbrev pub example_i : List ExampleStep
example_i = example_h ++ (tick_edges 144 ++ (says (Read 0) (value 0x80C1) ∷ []))

-- j. One 8-bit word: unfinished after 15 edges, finished after 16.
abbrev pub example_j : List ExampleStep
example_j =
    set_up 0x0020 0x0000
    ++ (says (Write 3 0x0096) ok
    ∷ tick_edges 15
    ++ (says (Read 3) (refused 6) ∷ says (Tick true false) edge ∷ says (Read 3) (value 0x00FF) ∷ says (Tick true false) no_edge ∷ []))

-- k. An 8-bit SSEN client: SS high after edge 7, SCK back to idle while SS is high, SS low, then 16 edges: the same word
-- is sent whole, and one word is received.
abbrev pub example_k : List ExampleStep
example_k =
    set_up 0x0080 0x0000
    ++ (says (Write 3 0x00A5) ok
    ∷ clocks_out (High ∷ Low ∷ High ∷ [])
    ++ (says (Pin true false false) ok
    ∷ shows Low
    ∷ says (Pin true false true) ok
    ∷ shows Undriven
    ∷ says (Pin false false true) ok
    ∷ says (Pin false false false) ok
    ∷ clocks_out bits_of_a5
    ++ (says (Read 3) (value 0x00FF) ∷ says (Read 3) (refused 6) ∷ [])))

-- The worked script of "The script program", by its calls.
abbrev pub worked_script : List ExampleStep
worked_script =
    says (Write 1 0x0020) ok
    ∷ says (Write 0 0x8000) ok
    ∷ says (Read 3) (refused 6)
    ∷ says (Write 3 0x00A5) ok
    ∷ says (Read 0) (value 0x8000)
    ∷ says (Write 3 0x003C) ok
    ∷ says (Read 0) (value 0x8002)
    ∷ says (Tick true false) edge
    ∷ shows High
    ∷ says (Tick false false) edge
    ∷ shows High
    ∷ says (Write 1 0x0000) (refused 3)
    ∷ []

-- All of them, each from power-up; l, the linked pair, is in crates/link_rules.
abbrev pub paper_examples : List (List ExampleStep)
paper_examples =
    example_a
    ∷ example_b
    ∷ example_c
    ∷ example_d
    ∷ example_e
    ∷ example_f
    ∷ example_g
    ∷ example_h
    ∷ example_i
    ∷ example_j
    ∷ example_k
    ∷ worked_script
    ∷ []

abbrev pub every_holds : List (List ExampleStep) → Bool
every_holds [] = true
every_holds (x ∷ xs) = all_hold powered_up x && every_holds xs

abbrev pub examples : Bool
examples = every_holds paper_examples

-- Further examples, of rules that a to l do not touch.

-- Power-up: every register reads 0000, the flag is clear, SCK is low and SDO undriven. Enabling sets the clock to idle.
abbrev pub further_power_up : List ExampleStep
further_power_up =
    says (Read 0) (value 0x0000)
    ∷ says (Read 1) (value 0x0000)
    ∷ says (Read 2) (value 0x0000)
    ∷ flagged false
    ∷ clock_at false
    ∷ shows Undriven
    ∷ says (Write 1 0x0060) ok
    ∷ says (Write 0 0x8000) ok
    ∷ clock_at true
    ∷ []

-- SPIROV: the clear call leaves it. Under STAT writes a 1 in bit 6 leaves it, enabled or not and when disabling; a 0 clears it; a 1 sets nothing.
abbrev pub further_spirov : List ExampleStep
further_spirov =
    example_i
    ++ (says Clear ok
    ∷ says (Read 0) (value 0x80C1)
    ∷ says (Write 0 0x8040) ok
    ∷ says (Read 0) (value 0x80C1)
    ∷ says (Write 0 0x0040) ok
    ∷ says (Read 0) (value 0x0040)
    ∷ says (Write 0 0x8040) ok
    ∷ says (Read 0) (value 0x80E0)
    ∷ says (Write 0 0x8000) ok
    ∷ says (Read 0) (value 0x80A0)
    ∷ says (Write 0 0x8040) ok
    ∷ says (Read 0) (value 0x80A0)
    ∷ [])

-- CKE 1: the top bit stands on SDO from the BUF write on, and SDI is sampled on odd edges, where it is high here.
abbrev pub sends_cke1 : List Output → List ExampleStep
sends_cke1 [] = []
sends_cke1 (bit ∷ bits) = shows bit ∷ says (Tick true false) edge ∷ shows bit ∷ says (Tick false false) edge ∷ sends_cke1 bits

abbrev pub further_cke1 : List ExampleStep
further_cke1 =
    set_up 0x0120 0x0000
    ++ (shows Low
    ∷ says (Write 3 0x00A5) ok
    ∷ sends_cke1 bits_of_a5
    ++ (shows Low ∷ says (Read 3) (value 0x00FF) ∷ says (Tick true false) no_edge ∷ []))

-- Enabling sets select to high, so that an SSEN client does not drive SDO.
abbrev pub further_select : List ExampleStep
further_select = set_up 0x0080 0x0000 ++ (shows Undriven ∷ says (Pin false false false) ok ∷ shows Low ∷ [])

-- The flag: a standard finish sets it, disabling and enabling leave it, and only the clear call clears it.
abbrev pub further_flag : List ExampleStep
further_flag =
    set_up 0x0020 0x0000
    ++ (says (Write 3 0x0055) ok
    ∷ tick_edges 15
    ++ (flagged false
    ∷ says (Tick true false) edge
    ∷ flagged true
    ∷ says (Write 0 0x0000) ok
    ∷ flagged true
    ∷ says (Write 0 0x8000) ok
    ∷ flagged true
    ∷ says Clear ok
    ∷ flagged false
    ∷ []))

-- A filler of zeros goes out when nothing can be sent, and takes no word with it: what is written during it is sent next.
abbrev pub further_filler : List ExampleStep
further_filler =
    set_up 0x0080 0x0000
    ++ (says (Pin true true false) ok
    ∷ says (Write 3 0x00A5) ok
    ∷ says (Pin false true false) ok
    ∷ shows Low
    ∷ clocks_out (Low ∷ Low ∷ Low ∷ Low ∷ Low ∷ Low ∷ Low ∷ [])
    ++ (says (Read 3) (value 0x00FF) ∷ clocks_out bits_of_a5 ++ (says (Read 3) (value 0x00FF) ∷ [])))

-- Registers: unlisted bits read 0 and ignore writes, a STAT write takes SPIEN, SPISIDL and SISEL alone, and a register above
-- 3 gives 1. Disabled, BUF, tick and pin calls give 2.
abbrev pub further_registers : List ExampleStep
further_registers =
    says (Write 1 0xFFFF) ok
    ∷ says (Read 1) (value 0x1FFF)
    ∷ says (Write 2 0xFFFF) ok
    ∷ says (Read 2) (value 0xE003)
    ∷ says (Write 0 0x7FFF) ok
    ∷ says (Read 0) (value 0x201C)
    ∷ says (Write 0 0x2000) ok
    ∷ says (Read 0) (value 0x2000)
    ∷ says (Read 4) (refused 1)
    ∷ says (Write 4 0x8000) (refused 1)
    ∷ says (Read 3) (refused 2)
    ∷ says (Write 3 0x0001) (refused 2)
    ∷ says (Tick true false) (refused 2)
    ∷ says (Pin true true true) (refused 2)
    ∷ []

-- Clocks: a host with its own clock gives 7 for a pin call, and a DISSCK host and a client give 7 for a tick. A refused CON1 write takes nothing. An
-- idle host makes no edge with CKP 1 either, and a DISSCK host that has nothing to send receives nothing.
abbrev pub further_clocks : List ExampleStep
further_clocks =
    set_up 0x0060 0x0000
    ++ (says (Tick true true) no_edge
    ∷ clock_at true
    ∷ says (Pin true true true) (refused 7)
    ∷ says (Write 1 0x0000) (refused 3)
    ∷ says (Read 1) (value 0x0060)
    ∷ says (Write 0 0x0000) ok
    ∷ set_up 0x1020 0x0000
    ++ (clocked_by 8 true true true
    ++ (says (Read 3) (refused 6)
    ∷ says (Tick true false) (refused 7)
    ∷ says (Write 0 0x0000) ok
    ∷ set_up 0x0000 0x0000 ++ (says (Tick true false) (refused 7) ∷ says (Pin false true true) ok ∷ []))))

-- The highest bit goes out first; and an SSEN client of 16 bits has no word after 8 clocks.
abbrev pub further_bits : List ExampleStep
further_bits =
    set_up 0x0020 0x0000
    ++ (says (Write 3 0x0001) ok
    ∷ says (Tick true true) edge
    ∷ shows Low
    ∷ says (Write 0 0x0000) ok
    ∷ set_up 0x0480 0x0000
    ++ (says (Pin false false false) ok
    ∷ clocked_by 8 true true false
    ++ (says (Read 3) (refused 6) ∷ clocked_by 8 true true false ++ (says (Read 3) (value 0xFFFF) ∷ []))))

-- An abort with CKE 0 leaves SDO at its level, which is driven again once selected.
abbrev pub further_abort : List ExampleStep
further_abort =
    set_up 0x0080 0x0000
    ++ (says (Write 3 0x00A5) ok
    ∷ says (Pin true true false) ok
    ∷ shows High
    ∷ says (Pin true true true) ok
    ∷ shows Undriven
    ∷ says (Pin true true false) ok
    ∷ shows High
    ∷ [])

-- SPIBEC of a client tells the unread words, not those waiting; and SISEL 0 goes by the words that a read leaves.
abbrev pub further_counts : List ExampleStep
further_counts =
    set_up 0x0000 0x0001
    ++ (says (Write 3 0x0001) ok
    ∷ says (Write 3 0x0002) ok
    ∷ says (Read 0) (value 0x8020)
    ∷ says (Write 0 0x0000) ok
    ∷ set_up 0x0020 0x0001
    ++ (says (Write 3 0x00A5) ok
    ∷ tick_edges 16
    ++ (flagged false ∷ says (Read 3) (value 0x00FF) ∷ flagged true ∷ [])))

-- Document 02, One and Three: which setting was wrong. Each mistake alone, each pair that can meet, a client and a DISSCK host
-- with both prescalers 1:1, which are enabled, and a client with CKE, no SSEN and both 1:1. With FRMEN 13 and 14 stay, and a
-- client with CKE and no SSEN is enabled. A refused enabling takes nothing.
abbrev pub enabling_gives : ℕ → ℕ → ℕ → List ExampleStep
enabling_gives con1 con2 number =
    says (Write 1 con1) ok
    ∷ says (Write 2 con2) ok
    ∷ says (Write 0 0xA01C) (refused number)
    ∷ says (Read 0) (value 0x0000)
    ∷ []

abbrev pub enabling_done : ℕ → ℕ → List ExampleStep
enabling_done con1 con2 = set_up con1 con2 ++ (says (Write 0 0x0000) ok ∷ [])

abbrev pub further_causes : List ExampleStep
further_causes =
    enabling_gives 0x003F 0x0000 13
    ++ (enabling_gives 0x0220 0x0000 14
    ++ (enabling_gives 0x0280 0x0000 14
    ++ (enabling_gives 0x0100 0x0000 15
    ++ (enabling_gives 0x023F 0x0000 13
    ++ (enabling_gives 0x0300 0x0000 14
    ++ (enabling_gives 0x011F 0x0000 15
    ++ (enabling_gives 0x003F 0x8000 13
    ++ (enabling_gives 0x0300 0x8000 14
    ++ (enabling_done 0x0020 0x8000
    ++ (enabling_done 0x0100 0xC000
    ++ (enabling_done 0x001F 0x0000
    ++ enabling_done 0x103F 0x0000)))))))))))

abbrev pub further_examples : Bool
further_examples =
    every_holds (further_power_up ∷ further_spirov ∷ further_cke1 ∷ further_select ∷ further_flag ∷ further_filler ∷ further_registers ∷ further_clocks ∷ further_bits ∷ further_abort
    ∷ further_counts ∷ further_causes ∷ [])

-- Document 02, Four: the mark of an overflow in enhanced operation. Eight words are held and cannot be read, not after SPIROV is
-- cleared and not after a STAT write that leaves SPIEN 1; a further finished word sets SPIROV again; disabling takes the mark
-- away, and reception begins anew.
abbrev pub marked_enhanced : List ExampleStep
marked_enhanced =
    example_i
    ++ (says (Read 3) (refused 16)
    ∷ says (Write 0 0x8000) ok
    ∷ says (Read 0) (value 0x8081)
    ∷ says (Read 3) (refused 16)
    ∷ says (Read 4) (refused 1)
    ∷ says (Write 3 0x0055) ok
    ∷ tick_edges 16
    ++ (says (Read 0) (value 0x80C1)
    ∷ says (Read 3) (refused 16)
    ∷ says (Write 0 0x0000) ok
    ∷ says (Read 3) (refused 2)
    ∷ says (Write 0 0x8000) ok
    ∷ says (Read 3) (refused 6)
    ∷ says (Write 3 0x0055) ok
    ∷ tick_edges 16
    ++ (says (Read 3) (value 0x00FF) ∷ [])))

-- In standard operation the first word is held and read, and reception goes on.
abbrev pub unmarked_standard : List ExampleStep
unmarked_standard =
    set_up 0x0020 0x0000
    ++ (says (Write 3 0x0001) ok
    ∷ says (Write 3 0x0002) ok
    ∷ tick_edges 32
    ++ (says (Read 0) (value 0x8041)
    ∷ says (Read 3) (value 0x00FF)
    ∷ says (Read 3) (refused 6)
    ∷ says (Write 3 0x0003) ok
    ∷ tick_edges 16
    ++ (says (Read 3) (value 0x00FF) ∷ [])))

abbrev pub mark_examples : Bool
mark_examples = every_holds (marked_enhanced ∷ unmarked_standard ∷ [])

-- Document 02, Twelve: an enhanced host of a depth, by its own figures: one word more than the depth is accepted, STAT reads so then, and the
-- next word gives 5. SISEL 7 is met as the last word waits, 4 as one leaves, 5 not while words are left, 2 at the finish that leaves three quarters
-- of the depth unread, 3 at the one that leaves the depth. The word behind them is lost, which SISEL 1 does not take for an append.
abbrev pub depth_case : ℕ → ℕ → ℕ → List ExampleStep
depth_case depth three_quarters stat =
    set_up 0x0020 0x0001
    ++ (says (Write 0 0x801C) ok
    ∷ replicate depth (says (Write 3 0x0081) ok)
    ++ (flagged false
    ∷ says (Write 3 0x0081) ok
    ∷ flagged true
    ∷ says (Read 0) (value stat)
    ∷ says (Write 3 0x0081) (refused 5)
    ∷ says (Write 0 0x8010) ok
    ∷ flagged true
    ∷ says Clear ok
    ∷ tick_edges 15
    ++ (flagged false
    ∷ tick_edges 1
    ++ (flagged true
    ∷ says Clear ok
    ∷ says (Write 0 0x8014) ok
    ∷ tick_edges 16
    ++ (flagged false
    ∷ says (Write 0 0x8008) ok
    ∷ tick_edges (16 * (three_quarters - 3))
    ++ (flagged false
    ∷ tick_edges 16
    ++ (flagged true
    ∷ says Clear ok
    ∷ says (Write 0 0x800C) ok
    ∷ tick_edges (16 * (depth - 1 - three_quarters))
    ++ (flagged false
    ∷ tick_edges 16
    ++ (flagged true
    ∷ says (Read 0) (value 0x800D)
    ∷ says Clear ok
    ∷ says (Write 0 0x8004) ok
    ∷ tick_edges 16
    ++ (flagged false ∷ says (Read 0) (value 0x80C5) ∷ says (Tick true false) no_edge ∷ []))))))))))

-- SISEL 6: a word leaves the transmit buffer with none left, at once at a write or as the word before it is finished.
abbrev pub none_left : List ExampleStep
none_left =
    set_up 0x0020 0x0001
    ++ (says (Write 0 0x8018) ok
    ∷ says (Write 3 0x0001) ok
    ∷ flagged true
    ∷ says Clear ok
    ∷ says (Write 3 0x0002) ok
    ∷ says (Write 3 0x0003) ok
    ∷ tick_edges 16
    ++ (flagged false ∷ tick_edges 16 ++ (flagged true ∷ [])))

-- Ten words written at depth 16, so that nine wait: SPIBEC shows 7, and the buffer is not full.
abbrev pub nine_wait : List ExampleStep
nine_wait = set_up 0x0020 0x0001 ++ (replicate 10 (says (Write 3 0x0081) ok) ++ (says (Read 0) (value 0x8720) ∷ []))

-- Power-up with other depths gives 25.
abbrev pub no_depth : List ℕ → Bool
no_depth [] = true
no_depth (words ∷ rest) = same_said (said_of (power_up_of powered_up words).answer) (refused 25) && no_depth rest

-- The chosen depth counts in enhanced operation alone: example g at depth 16.
abbrev pub deep : ℕ → List ExampleStep → Bool
deep words steps = same_said (said_of (power_up_of powered_up words).answer) ok && all_hold (power_up_of powered_up words).after steps

abbrev pub depth_examples : Bool
depth_examples =
    no_depth (0 ∷ 1 ∷ 3 ∷ 5 ∷ 7 ∷ 9 ∷ 12 ∷ 15 ∷ 17 ∷ 32 ∷ [])
    && (deep 4 (depth_case 4 3 0x843E)
    && (deep 8 (depth_case 8 6 0x873E) && (deep 16 (depth_case 16 12 0x873E) && (deep 16 nine_wait && (deep 16 example_g && deep 4 none_left)))))

-- Document 02, Three: frames.

-- Clocks of a framed host with its own clock: a transmit edge and a sample edge each, with these bits on SDO after both, SDI
-- high, and SS told low. A frame host drives SS at the given level; a frame client does not.
abbrev pub clocks : Output → List Output → List ExampleStep
clocks select [] = []
clocks select (bit ∷ bits) =
    says (Tick true false) edge
    ∷ shows bit
    ∷ drives select
    ∷ says (Tick true false) edge
    ∷ shows bit
    ∷ drives select
    ∷ clocks select bits

-- The bits of 3C and of 81, and seven of one level.
abbrev pub bits_of3_c : List Output
bits_of3_c = Low ∷ Low ∷ High ∷ High ∷ High ∷ High ∷ Low ∷ Low ∷ []

abbrev pub bits_of81 : List Output
bits_of81 = High ∷ Low ∷ Low ∷ Low ∷ Low ∷ Low ∷ Low ∷ High ∷ []

-- FRMDLY 0, SS active high: the clock runs before the first word; each pulse comes one clock before the first bit, the second
-- on the last bit of the first word; then the clock runs on without a pulse.
abbrev pub frame_before : List ExampleStep
frame_before =
    set_up 0x0020 0xA000
    ++ (drives Low
    ∷ clocks Low (Low ∷ [])
    ++ (says (Write 3 0x00A5) ok
    ∷ says (Write 3 0x003C) ok
    ∷ clocks High (Low ∷ [])
    ++ (clocks Low (High ∷ Low ∷ High ∷ Low ∷ Low ∷ High ∷ Low ∷ [])
    ++ (clocks High (High ∷ [])
    ++ (clocks Low bits_of3_c ++ (clocks Low (Low ∷ Low ∷ []) ++ (says (Read 3) (value 0x00FF) ∷ [])))))))

-- FRMDLY 1: each pulse lies on the first bit.
abbrev pub frame_with : List ExampleStep
frame_with =
    set_up 0x0020 0xA002
    ++ (drives Low
    ∷ clocks Low (Low ∷ [])
    ++ (says (Write 3 0x00A5) ok
    ∷ says (Write 3 0x003C) ok
    ∷ clocks High (High ∷ [])
    ++ (clocks Low (Low ∷ High ∷ Low ∷ Low ∷ High ∷ Low ∷ High ∷ [])
    ++ (clocks High (Low ∷ [])
    ++ (clocks Low (Low ∷ High ∷ High ∷ High ∷ High ∷ Low ∷ Low ∷ []) ++ clocks Low (Low ∷ Low ∷ []))))))

-- FRMDLY 0, SS active low, CKE and SSEN written and not heeded: the second word comes between edges 15 and 16 of the first, too
-- late for the pulse on the last bit.
abbrev pub frame_late : List ExampleStep
frame_late =
    set_up 0x01A0 0x8000
    ++ (drives High
    ∷ says (Write 3 0x00FF) ok
    ∷ shows Low
    ∷ clocks Low (Low ∷ [])
    ++ (clocks High (replicate 7 High)
    ++ (says (Tick true false) edge
    ∷ says (Write 3 0x0081) ok
    ∷ says (Tick true false) edge
    ∷ drives High
    ∷ clocks Low (High ∷ [])
    ++ (clocks High bits_of81
    ++ (says (Write 0 0x0000) ok ∷ drives Undriven ∷ says (Write 0 0x8000) ok ∷ drives High ∷ [])))))

-- A frame client with its own clock: a pulse seen at a sample edge starts the loaded word at the next transmit edge, and one
-- seen at a transmit edge nothing. At edge 16 the next pulse is seen, and a filler goes out; a pulse within it is not looked at.
abbrev pub frame_sampled : List ExampleStep
frame_sampled =
    set_up 0x0020 0xE000
    ++ (says (Write 3 0x00A5) ok
    ∷ clocks Undriven (Low ∷ [])
    ++ (says (Tick true true) edge
    ∷ shows Low
    ∷ says (Tick true false) edge
    ∷ says (Tick true false) edge
    ∷ shows Low
    ∷ says (Tick true true) edge
    ∷ shows Low
    ∷ clocks Undriven (High ∷ Low ∷ High ∷ Low ∷ Low ∷ High ∷ Low ∷ [])
    ++ (says (Tick true false) edge
    ∷ shows High
    ∷ flagged false
    ∷ says (Tick true true) edge
    ∷ shows High
    ∷ flagged true
    ∷ says (Read 3) (value 0x00FF)
    ∷ says (Write 3 0x00A5) ok
    ∷ says (Write 0 0x0000) ok
    ∷ [])))

abbrev pub frame_filler : List ExampleStep
frame_filler =
    set_up 0x0020 0xE002
    ++ (says (Tick true false) edge
    ∷ says (Tick true true) edge
    ∷ clocks Undriven (Low ∷ Low ∷ [])
    ++ (says (Tick true true) edge
    ∷ says (Tick true true) edge
    ∷ says (Write 3 0x00A5) ok
    ∷ clocks Undriven (replicate 5 Low)
    ++ (says (Read 3) (value 0x00FF)
    ∷ clocks Undriven (Low ∷ Low ∷ [])
    ++ (says (Tick true true) edge
    ∷ says (Tick true true) edge
    ∷ clocks Undriven bits_of_a5
    ++ (says (Read 3) (value 0x00FF) ∷ says (Read 3) (refused 6) ∷ [])))))

-- A client that is a frame host, with SSEN and select high: it drives SDO and SS and sends at every pulse.
abbrev pub pin_clocks : Output → List Output → List ExampleStep
pin_clocks select [] = []
pin_clocks select (bit ∷ bits) =
    says (Pin true true true) ok
    ∷ shows bit
    ∷ drives select
    ∷ says (Pin false true true) ok
    ∷ shows bit
    ∷ drives select
    ∷ pin_clocks select bits

abbrev pub frame_pins : List ExampleStep
frame_pins =
    set_up 0x0180 0xA000
    ++ (shows Low
    ∷ pin_clocks Low (Low ∷ Low ∷ [])
    ++ (says (Write 3 0x00A5) ok
    ∷ pin_clocks High (Low ∷ [])
    ++ (pin_clocks Low bits_of_a5 ++ (pin_clocks Low (High ∷ []) ++ (says (Read 3) (value 0x00FF) ∷ [])))))

-- A DISSCK host that is a frame client, clock idle high, words of 16 bits, SS active low.
abbrev pub pin_sixteen : List Output → List ExampleStep
pin_sixteen [] = []
pin_sixteen (bit ∷ bits) =
    says (Pin false true true) ok ∷ shows bit ∷ says (Pin true true true) ok ∷ shows bit ∷ pin_sixteen bits

abbrev pub frame_sixteen : List ExampleStep
frame_sixteen =
    set_up 0x1460 0xC000
    ++ (says (Write 3 0x8001) ok
    ∷ says (Pin true false true) ok
    ∷ says (Pin false false false) ok
    ∷ says (Pin true false false) ok
    ∷ shows Low
    ∷ pin_sixteen (High ∷ replicate 14 Low ++ (High ∷ []))
    ++ (says (Pin false true true) ok ∷ shows High ∷ says (Read 3) (value 0xFFFF) ∷ says (Tick true true) (refused 7) ∷ []))

-- A frame client that is clocked from its pin sees a pulse, and receives on even edges; so it does with CKE and SSEN set, which count as 0,
-- and SS active high.
abbrev pub frame_clocked : List ExampleStep
frame_clocked =
    set_up 0x0000 0xC000
    ++ (clocked_by 1 true true true
    ++ (clocked_by 1 true true false ++ (clocked_by 8 false true true ++ (says (Read 3) (value 0x00FF) ∷ []))))

abbrev pub frame_heedless : List ExampleStep
frame_heedless =
    set_up 0x0180 0xE000
    ++ (clocked_by 1 true true false
    ++ (clocked_by 1 true true true ++ (clocked_by 8 false true false ++ (says (Read 3) (value 0x00FF) ∷ []))))

abbrev pub frame_examples : Bool
frame_examples =
    every_holds (frame_before ∷ frame_with ∷ frame_late ∷ frame_sampled ∷ frame_filler ∷ frame_pins ∷ frame_sixteen ∷ frame_clocked ∷ frame_heedless ∷ [])

-- Document 02, Eleven: clock steps.

-- Examples with clock steps for ticks and pin calls. That for a tick has SCK high, which must not count, and is done where the tick
-- makes an edge.
abbrev pub as_clock_step : Call → Call
as_clock_step (Read register) = Read register
as_clock_step (Write register v) = Write register v
as_clock_step (Tick sdi ss) = ClockStep true sdi ss
as_clock_step (Pin sck sdi ss) = ClockStep sck sdi ss
as_clock_step (ClockStep sck sdi ss) = ClockStep sck sdi ss
as_clock_step Clear = Clear

abbrev pub by_clock_step : ExampleStep → ExampleStep
by_clock_step (says c a) = says (as_clock_step c) (when eqb a.kind 4 then ok else a)
by_clock_step (shows level) = shows level
by_clock_step (drives level) = drives level
by_clock_step (flagged flag) = flagged flag
by_clock_step (clock_at level) = clock_at level

-- A host with its own clock: disabled 2, idle no edge, and then an edge at each step, whatever SCK and SS are, until the word is sent.
-- A pin call gives 7.
abbrev pub step_host : List ExampleStep
step_host =
    says (ClockStep true true true) (refused 2)
    ∷ set_up 0x0020 0x0000
    ++ (says (ClockStep true true true) no_edge
    ∷ clock_at false
    ∷ says (Write 3 0x0081) ok
    ∷ says (ClockStep false true true) ok
    ∷ clock_at true
    ∷ shows High
    ∷ says (ClockStep true false false) ok
    ∷ clock_at false
    ∷ says (ClockStep false true true) ok
    ∷ clock_at true
    ∷ shows Low
    ∷ replicate 13 (says (ClockStep true true true) ok)
    ++ (says (Read 3) (value 0x007F) ∷ says (ClockStep false true false) no_edge ∷ says (Pin true true true) (refused 7) ∷ []))

-- A host under DISSCK and a client, where a tick gives 7: an SCK level that stays is no edge, and each step is done.
abbrev pub step_pins : List ExampleStep
step_pins =
    set_up 0x1020 0x0000
    ++ (says (Write 3 0x0081) ok
    ∷ says (ClockStep false true true) ok
    ∷ shows Low
    ∷ says (ClockStep true true true) ok
    ∷ shows High
    ∷ says (ClockStep true true true) ok
    ∷ clock_at true
    ∷ says (Tick true true) (refused 7)
    ∷ says (Write 0 0x0000) ok
    ∷ says (ClockStep true true true) (refused 2)
    ∷ set_up 0x0080 0x0000
    ++ (says (ClockStep true true true) ok ∷ shows Undriven ∷ says (ClockStep false true false) ok ∷ shows Low ∷ []))

abbrev pub step_examples : Bool
step_examples =
    every_holds
    (step_host
    ∷ step_pins
    ∷ map (map by_clock_step)
    (example_f ∷ example_k ∷ worked_script ∷ further_cke1 ∷ further_flag ∷ further_filler ∷ further_registers ∷ frame_before ∷ frame_sampled ∷ frame_pins ∷ []))
