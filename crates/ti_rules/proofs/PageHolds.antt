-- The page holds at every call of these lists (proofs/PageRun.antt), from power-up: a wrong rule that one of them tells apart is seen to be
-- false of the page.
--     page_holds   masters and slaves, both phases and polarities, pauses, zeros, losses, refusals and reset
-- Assumes nothing.
use Rattle.std.specs.Prelude.{◌∷◌, ◌++◌, ◌≡◌}
use Rattle.laws.proofs.Common.{ℕ, zero, suc, Bool, true, false, not, List, [], refl, when◌then◌else◌}
use Rattle.word_order.specs.Bits.{bit_of}
use Rattle.word_order.specs.Ledger.{opened, left_to_send, loses, first_on_wire, counted, closed, given}
use Rattle.ti_rules.specs.declared.Call.{Call}
use Rattle.ti_rules.specs.declared.Call.TheVariants.{Enter, Leave, Mode, Length, Write, Read, Tick, Pin, Clear}
use Rattle.ti_rules.specs.Settings.{rested_at, powered_up, is_length, changes_mode}
use Rattle.ti_rules.specs.Characters.{character_in, between_sdo, written, taken, cleared}
use Rattle.ti_rules.specs.Finish.{finished}
use Rattle.ti_rules.specs.Edge.{latches, received_after, sdo_after, shifted, clocked, edged, seen, turned, leads_on, stepped}
use Rattle.ti_rules.specs.Refusals.{number_of}
use Rattle.ti_rules.specs.Calls.{enter_of, leave_of, set_mode, set_length, write_of, read_of, tick_of, pins_of, clear_of, undriven, sdo_of}
use Rattle.ti_rules.specs.Watch.{way_of, latched, carried, edge_ops, wanted, entry_of, remembered_of, start}
use Rattle.ti_rules.specs.Flags.{current, some_wait, shown_at, sdo_seen}
use Rattle.ti_rules.proofs.PageRun.{claims, seen as judged, run}

-- So many times over, and lists behind one another.
abbrev times : ℕ → List Call → List Call
times zero cs = []
times (suc n) cs = cs ++ times n cs

abbrev one_by_one : List (List Call) → List Call
one_by_one [] = []
one_by_one (cs ∷ rest) = cs ++ one_by_one rest

-- A length and a mode are set, and reset is left.
abbrev set_up : ℕ → Bool → Bool → Bool → List Call
set_up n master polarity phase = Length n ∷ Mode master true polarity phase ∷ Leave ∷ []

-- So many clocks of a master, and of a slave that is selected, from its inactive level.
abbrev ticks : ℕ → Bool → List Call
ticks n sdi = times n (Tick sdi ∷ Tick sdi ∷ [])

abbrev clocks : ℕ → Bool → Bool → List Call
clocks n away sdi = times n (Pin away sdi false ∷ Pin (not away) sdi false ∷ [])

-- In reset: every call is tried, lengths among them.
abbrev in_reset : List Call
in_reset =
    Write 32768 ∷ Read ∷ Tick true ∷ Pin true true false ∷ Length 0 ∷ Length 17 ∷ Length 16 ∷ Mode true true true true ∷ Clear ∷ Enter
    ∷ Mode false false true false
    ∷ []

-- A master of 3 bits: three writes, of which the last is refused, a character that is lost, and what may not be set out of reset.
abbrev master : Bool → Bool → List Call
master polarity phase =
    one_by_one
    (set_up 3 true polarity phase
    ∷ (Tick true ∷ Write 40960 ∷ Write 24576 ∷ Write 65535 ∷ Length 0 ∷ Length 3 ∷ Mode true true polarity (not phase) ∷ Mode true true (not polarity) phase
    ∷ Mode false true polarity phase ∷ Pin true true false ∷ [])
    ∷ ticks 3 true
    ∷ ticks 2 false
    ∷ (Mode true false polarity phase ∷ Write 8192 ∷ Read ∷ Mode true true polarity phase ∷ [])
    ∷ ticks 4 true
    ∷ (Tick false ∷ Read ∷ Read ∷ Leave ∷ Write 57344 ∷ [])
    ∷ ticks 3 false
    ∷ (Write 57344 ∷ [])
    ∷ ticks 3 true
    ∷ (Clear ∷ Write 40960 ∷ Tick true ∷ Enter ∷ Read ∷ Leave ∷ Read ∷ Write 32768 ∷ Tick true ∷ Enter ∷ [])
    ∷ [])

-- A slave of 2 bits: a character that is paused within, an edge that leads the wrong way, zeros, and a write behind them.
abbrev slave : Bool → Bool → Bool → List Call
slave rest away phase =
    one_by_one
    (set_up 2 false rest phase
    ∷ (Tick true ∷ Write 32768 ∷ Pin rest true false ∷ Pin away true false ∷ Pin away false true ∷ Pin rest false true ∷ Pin rest true false
    ∷ Pin away true false
    ∷ Pin rest true false
    ∷ [])
    ∷ clocks 1 away false
    ∷ (Pin away true false ∷ Write 49152 ∷ Write 16384 ∷ Pin rest true false ∷ Pin rest true true ∷ [])
    ∷ clocks 1 away true
    ∷ (Read ∷ [])
    ∷ clocks 4 away true
    ∷ (Mode false false rest phase ∷ Pin away false false ∷ Write 65535 ∷ Enter ∷ Write 1 ∷ Leave ∷ Read ∷ Enter ∷ [])
    ∷ [])

-- The longest characters, and the shortest.
abbrev longest : Bool → List Call
longest phase = one_by_one (set_up 16 true false phase ∷ (Write 33281 ∷ []) ∷ ticks 15 true ∷ ticks 1 false ∷ (Read ∷ Enter ∷ []) ∷ [])

abbrev shortest : Bool → List Call
shortest phase =
    one_by_one
    (set_up 1 true false phase ∷ (Write 32768 ∷ Write 32767 ∷ []) ∷ ticks 1 true ∷ ticks 1 false ∷ (Read ∷ Read ∷ Enter ∷ []) ∷ [])

abbrev all : List Call
all =
    one_by_one
    (in_reset
    ∷ master false false
    ∷ master true false
    ∷ master false true
    ∷ slave false true false
    ∷ slave true false false
    ∷ slave false true true
    ∷ shortest false
    ∷ shortest true
    ∷ longest false
    ∷ longest true
    ∷ [])

pub page_holds : run all start ≡ true
unfolding when◌then◌else◌ bit_of opened left_to_send loses first_on_wire counted closed given rested_at powered_up is_length changes_mode character_in between_sdo written taken cleared finished latches received_after sdo_after shifted clocked edged seen turned leads_on stepped number_of enter_of leave_of set_mode set_length write_of read_of tick_of pins_of clear_of undriven sdo_of way_of latched carried edge_ops wanted entry_of remembered_of current some_wait shown_at sdo_seen claims judged run
page_holds = refl
