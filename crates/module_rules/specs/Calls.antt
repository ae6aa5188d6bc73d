-- The calls of document 01 on one module: each gives its answer and the whole module after it. Register calls test 1,
-- then 2 or 3, then 13 to 15, 5 or 16 and 6; tick and pin calls test 2, then 7, and a clock step 2. A refused call leaves the module
-- as it was.
use Rattle.std.specs.Prelude.{ℕ, Bool, false, not, ◌&&◌, ◌||◌, List, [], ◌∷◌, eqb, ltb}
use Rattle.std.specs.Bool.{beq}
use Rattle.laws.specs.Choice.{when◌then◌else◌}
use Rattle.word_order.specs.Bits.{bit_of}
use Rattle.module_types.specs.declared.Con1.{Con1}
use Rattle.module_types.specs.declared.Con2.{Con2}
use Rattle.module_types.specs.declared.Depth.{Depth}
use Rattle.module_types.specs.declared.Depth.TheVariants.{Four, Eight, Sixteen}
use Rattle.module_types.specs.declared.Settings.{Settings}
use Rattle.module_types.specs.declared.Engine.{Engine}
use Rattle.module_types.specs.declared.Module.{Module}
use Rattle.module_types.specs.declared.Pins.{Pins}
use Rattle.module_types.specs.declared.Outcome.{Outcome}
use Rattle.module_types.specs.declared.Shift.TheVariants.{Free}
use Rattle.module_types.specs.declared.Event.TheVariants.{Taken, Written}
use Rattle.module_types.specs.declared.Refusal.{Refusal}
use Rattle.module_types.specs.declared.Refusal.TheVariants.{NoSuchRegister, Disabled, Enabled, TransmitFull, ReceiveEmpty, WrongClock, Overflowed, NoSuchDepth}
use Rattle.module_types.specs.declared.Answer.{Answer}
use Rattle.module_types.specs.declared.Answer.TheVariants.{Refused, Done, Value, NoEdge, Edge}
use Rattle.module_types.specs.declared.Call.{Call}
use Rattle.module_types.specs.declared.Call.TheVariants.{Read, Write, Tick, Pin, ClockStep, Clear}
use Rattle.module_types.specs.declared.Output.{Output}
use Rattle.module_types.specs.declared.Output.TheVariants.{Low, High, Undriven}
use Rattle.module_rules.specs.Changes.{with_transmit, with_receive, with_interrupt}
use Rattle.module_rules.specs.Settings.{depth_of, frame_host, frame_client, own_clock, unframed_host}
use Rattle.module_rules.specs.Refusals.{causes, bad_settings, first_given}
use Rattle.module_rules.specs.Registers.{con1_from, con1_value, con2_from, con2_value, is_free, stat_value, stat_settings, stat_engine, enabled_engine, disabled_engine, low_bits, spitbf}
use Rattle.module_rules.specs.Buffers.{empty, empty_transmit, empty_receive, first_unread, taken, written}
use Rattle.module_rules.specs.Interrupts.{noted}
use Rattle.module_rules.specs.Loading.{loaded, rested}
use Rattle.module_rules.specs.Select.{deselected}
use Rattle.module_rules.specs.Edge.{Levels, levels, stepped}

-- A refusal returns its number only.
unfoldable pub refuse : Module → Refusal → Outcome
refuse m r = record { answer = Refused r; after = m }

-- A call that answers with another engine and leaves the settings.
unfoldable pub answering : Module → Answer → Engine → Outcome
answering m a n = record { answer = a; after = record { settings = m.settings; engine = n } }

-- Power-up with a depth (document 02, Twelve): all else zero, interrupt flag clear. The remembered levels are low.
unfoldable pub powered_at : Depth → Module
powered_at depth =
    record {
      settings = record { depth = depth; spien = false; spisidl = false; sisel = 0; con1 = con1_from 0; con2 = con2_from 0 };
      engine =
          record {
            transmit = empty_transmit;
            receive = empty_receive;
            shift = Free;
            pins = record { sck = false; ss = false; sdo = false; pulse = false };
            spirov = false;
            interrupt = false;
          };
    }

-- Power-up without a depth chooses 8.
abbrev pub powered_up : Module
powered_up = powered_at Eight

-- The power-up call with a depth, in any state: 25 for another one than 4, 8 and 16.
unfoldable pub power_up_of : Module → ℕ → Outcome
power_up_of m words =
    when eqb words 4 then record { answer = Done; after = powered_at Four }
    else when eqb words 8 then record { answer = Done; after = powered_at Eight }
    else when eqb words 16 then record { answer = Done; after = powered_at Sixteen }
    else refuse m NoSuchDepth

-- The first unread word is taken by a BUF read, which is an event.
unfoldable pub word_taken : Settings → Engine → Engine
word_taken s n =
    noted s (Taken (taken (depth_of s) n.receive).count) (with_receive (taken (depth_of s) n.receive) n)

-- BUF read: 2, then 16 (document 02, Four), then 6; then the first unread word is taken, and shown with zeros above its width.
unfoldable pub read_buf : Module → Outcome
read_buf m =
    when not m.settings.spien then refuse m Disabled
    else when m.engine.receive.marked then refuse m Overflowed
    else when empty m.engine.receive.count then refuse m ReceiveEmpty
    else answering m (Value (low_bits m.settings (first_unread m.engine.receive))) (word_taken m.settings m.engine)

-- Register read: 1 first. STAT, CON1 and CON2 change nothing.
unfoldable pub read_of : Module → ℕ → Outcome
read_of m register =
    when ltb 3 register then refuse m NoSuchRegister
    else when eqb register 0 then record { answer = Value (stat_value m); after = m }
    else when eqb register 1 then record { answer = Value (con1_value m.settings.con1); after = m }
    else when eqb register 2 then record { answer = Value (con2_value m.settings.con2); after = m }
    else read_buf m

-- A STAT write turns SPIEN from 0 to 1, or from 1 to 0.
unfoldable pub turns_on : Settings → ℕ → Bool
turns_on s v = not s.spien && bit_of v 15

unfoldable pub turns_off : Settings → ℕ → Bool
turns_off s v = s.spien && not (bit_of v 15)

-- The engine after a STAT write that is not refused.
unfoldable pub stat_written : Settings → ℕ → Engine → Engine
stat_written s v n =
    when turns_on s v then enabled_engine v s.con1 n
    else when turns_off s v then disabled_engine v n
    else stat_engine v n

-- STAT write. With bad settings SPIEN cannot go from 0 to 1: the write is refused and takes nothing.
unfoldable pub write_stat : Module → ℕ → Outcome
write_stat m v =
    when turns_on m.settings v && bad_settings m.settings then refuse m (first_given (causes m.settings))
    else record {
      answer = Done;
      after =
          record { settings = stat_settings v m.settings; engine = stat_written m.settings v m.engine };
    }

-- The settings with another CON1, and with another CON2.
unfoldable pub with_con1 : Settings → Con1 → Settings
with_con1 s c = record { depth = s.depth; spien = s.spien; spisidl = s.spisidl; sisel = s.sisel; con1 = c; con2 = s.con2 }

unfoldable pub with_con2 : Settings → Con2 → Settings
with_con2 s c = record { depth = s.depth; spien = s.spien; spisidl = s.spisidl; sisel = s.sisel; con1 = s.con1; con2 = c }

-- CON1 and CON2 writes: refused with 3 while SPIEN is 1, whatever the value.
unfoldable pub configured : Module → Settings → Outcome
configured m s =
    when m.settings.spien then refuse m Enabled
    else record { answer = Done; after = record { settings = s; engine = m.engine } }

-- The word is accepted: it waits, the first waiting word loads if it can, and the write is an event. With CKE 1 and
-- nothing begun SDO follows the word to be sent next.
unfoldable pub word_written : Settings → ℕ → Engine → Engine
word_written s word n =
    let queued : Engine = with_transmit (written (depth_of s) word n.transmit) n in
    rested s (noted s (Written (loaded s queued).transmit.count) (loaded s queued))

-- BUF write: 2, then 5; then the low w bits are the accepted word.
unfoldable pub write_buf : Module → ℕ → Outcome
write_buf m v =
    when not m.settings.spien then refuse m Disabled
    else when spitbf m then refuse m TransmitFull
    else answering m Done (word_written m.settings (low_bits m.settings v) m.engine)

-- Register write: 1 first.
unfoldable pub write_of : Module → ℕ → ℕ → Outcome
write_of m register v =
    when ltb 3 register then refuse m NoSuchRegister
    else when eqb register 0 then write_stat m v
    else when eqb register 1 then configured m (with_con1 m.settings (con1_from v))
    else when eqb register 2 then configured m (with_con2 m.settings (con2_from v))
    else write_buf m v

-- Document 02, Eleven: one call for a clock step, whatever the module. It carries the levels SCK, SDI and SS.

-- The select level that a host with its own clock is told counts for a frame client alone; for others the remembered one stays.
abbrev pub told_select : Module → Bool → Bool
told_select m ss = when frame_client m.settings then ss else m.engine.pins.ss

-- What a module goes by of these levels. A host with its own clock makes its next edge, to the other level of its clock, and ignores
-- SCK; any other module sees all three.
abbrev pub heeded : Module → Levels → Levels
heeded m x =
    when own_clock m.settings then levels (not m.engine.pins.sck) x.sdi (told_select m x.ss) else x

-- An unframed host with its own clock and no word loaded has no next edge.
abbrev pub no_next_edge : Module → Bool
no_next_edge m = unframed_host m.settings && is_free m.engine.shift

-- The call tests 2 alone. It answers "no edge" and changes nothing, or it is done.
unfoldable pub clock_step_of : Module → Bool → Bool → Bool → Outcome
clock_step_of m sck sdi ss =
    when not m.settings.spien then refuse m Disabled
    else when no_next_edge m then record { answer = NoEdge; after = m }
    else answering m Done (stepped m.settings (heeded m (levels sck sdi ss)) m.engine)

-- Tick: 2, then 7, then the clock step. A tick carries no SCK, which does not count here, and a step that is done is an edge made.
abbrev pub edge_for : Answer → Answer
edge_for (Refused r) = Refused r
edge_for Done = Edge
edge_for (Value v) = Value v
edge_for NoEdge = NoEdge
edge_for Edge = Edge

unfoldable pub edge_told : Outcome → Outcome
edge_told o = record { answer = edge_for o.answer; after = o.after }

unfoldable pub tick_of : Module → Bool → Bool → Outcome
tick_of m sdi ss =
    when not m.settings.spien then refuse m Disabled
    else when not (own_clock m.settings) then refuse m WrongClock
    else edge_told (clock_step_of m false sdi ss)

-- Pin call: 2, then 7, then the clock step.
unfoldable pub pins_of : Module → Bool → Bool → Bool → Outcome
pins_of m sck sdi ss =
    when not m.settings.spien then refuse m Disabled
    else when own_clock m.settings then refuse m WrongClock
    else clock_step_of m sck sdi ss

-- The clear call, enabled or not: nothing else clears the interrupt flag.
unfoldable pub clear_of : Module → Outcome
clear_of m = answering m Done (with_interrupt false m.engine)

-- Each call by its name.
unfoldable pub perform_of : Module → Call → Outcome
perform_of m (Read register) = read_of m register
perform_of m (Write register v) = write_of m register v
perform_of m (Tick sdi ss) = tick_of m sdi ss
perform_of m (Pin sck sdi ss) = pins_of m sck sdi ss
perform_of m (ClockStep sck sdi ss) = clock_step_of m sck sdi ss
perform_of m Clear = clear_of m

-- The module after a list of calls.
abbrev pub after_calls : Module → List Call → Module
after_calls m [] = m
after_calls m (c ∷ cs) = after_calls (perform_of m c).after cs

-- What a caller sees without changing anything: the interrupt flag, the remembered SCK level, and the
-- pins SDO and SS.
unfoldable pub interrupt_of : Module → Bool
interrupt_of m = m.engine.interrupt

unfoldable pub sck_of : Module → Bool
sck_of m = m.engine.pins.sck

-- SDO is undriven when disabled, under DISSDO, and for an SSEN client with SS high ("Bits").
abbrev pub undriven_by : Settings → Pins → Bool
undriven_by s p = not s.spien || (s.con1.dissdo || deselected s p.ss)

unfoldable pub undriven : Module → Bool
undriven m = undriven_by m.settings m.engine.pins

abbrev pub sdo_by : Bool → Pins → Output
sdo_by off p = when off then Undriven else when p.sdo then High else Low

unfoldable pub sdo_of : Module → Output
sdo_of m = sdo_by (undriven m) m.engine.pins

-- SS is driven by an enabled frame host: at the level FRMPOL during a pulse, else at the other one (document 02, Three).
abbrev pub ss_by : Settings → Pins → Output
ss_by s p =
    when not (s.spien && frame_host s) then Undriven
    else when beq p.pulse s.con2.frmpol then High
    else Low

unfoldable pub ss_of : Module → Output
ss_of m = ss_by m.settings m.engine.pins
