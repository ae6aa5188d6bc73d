-- How this module is watched: what the law of word order (crates/word_order) must know of it, and what each call and its answer tell.
use Rattle.std.specs.Prelude.{ℕ, ◌*◌, ◌%◌, ◌^◌, Bool, true, false, not, ◌&&◌, ◌||◌, List, [], ◌∷◌, ◌++◌, eqb}
use Rattle.std.specs.Bool.{beq}
use Rattle.laws.specs.Choice.{when◌then◌else◌}
use Rattle.word_order.specs.Bits.{bit_of}
use Rattle.word_order.specs.Ledger.{Terms, drops_new, Op, accepts, reads, begins, clocks, forgets}
use Rattle.word_order.specs.Port.{Way, idle, sends, Port}
use Rattle.word_order.specs.Machine.{Entry, opens, notes, Watching}
use Rattle.module_types.specs.declared.Settings.{Settings}
use Rattle.module_types.specs.declared.Module.{Module}
use Rattle.module_types.specs.declared.Shift.{Shift}
use Rattle.module_types.specs.declared.Shift.TheVariants.{Free, Loaded, Begun}
use Rattle.module_types.specs.declared.Answer.{Answer}
use Rattle.module_types.specs.declared.Output.{Output}
use Rattle.module_types.specs.declared.Output.TheVariants.{Low, High, Undriven}
use Rattle.module_types.specs.declared.Call.{Call}
use Rattle.module_types.specs.declared.Call.TheVariants.{Read, Write, Tick, Pin, ClockStep, Clear}
use Rattle.module_rules.specs.InBits.{word_bits, room, sampled_at, clocks_itself, heeds_select, takes_pulses, sends_no_filler}
use Rattle.module_rules.specs.Pulses.{started_by, stands}
use Rattle.module_rules.specs.Words.{unread_in, owed_words}
use Rattle.module_rules.specs.Refusals.{said_of, is_done, is_value, is_edge}
use Rattle.module_rules.specs.Calls.{perform_of, ss_of}
use Rattle.word_order.specs.Machine as law

abbrev pub terms : Settings → Terms
terms s =
    record {
      width = word_bits s;
      depth = room s;
      -- a received word that finds the buffer full is dropped; in enhanced operation that ends reception (document 02, Four)
      policy = drops_new s.con2.spiben;
      samples = sampled_at s;
      -- a word takes 2w edges
      last = 2 * word_bits s;
      silent = sends_no_filler s;
    }

-- Its words. The word under way is the begun one.
abbrev pub way_of : Shift → Way
way_of Free = idle
way_of (Loaded word) = idle
way_of (Begun p) = sends (record { filler = p.filler; word = p.word; edges = p.edges; received = p.received })

abbrev pub port_in : Module → Port
port_in m =
    record { owed = owed_words m; way = way_of m.engine.shift; unread = unread_in m; marked = m.engine.receive.marked }

-- A pin that is driven at this level.
abbrev pub is_level : Bool → Output → Bool
is_level level Low = not level
is_level level High = level
is_level level Undriven = false

-- A pulse on the module's own SS pin: driven, at the level FRMPOL.
abbrev pub shows_pulse : Module → Bool
shows_pulse m = is_level m.settings.con2.frmpol (ss_of m)

-- What shows as a call is made: the settings, the level that SDO has or would have, the answer, and whether SS shows a pulse after it.
pub record Sight : Type 0 where
  pub settings : Settings
  pub sdo : Bool
  pub answer : Answer
  pub shown : Bool

abbrev pub sight_of : Module → Call → Sight
sight_of m c =
    record {
      settings = m.settings;
      sdo = m.engine.pins.sdo;
      answer = (perform_of m c).answer;
      shown = shows_pulse (perform_of m c).after;
    }

-- What the watcher remembers: the levels of the clock and of select, and whether a pulse stands.
pub record Memory : Type 0 where
  pub sck : Bool
  pub ss : Bool
  pub pulse : Bool

-- The module was enabled: the clock is at its idle level, select is high and no pulse stands.
abbrev pub at_enabling : Settings → Memory
at_enabling s = record { sck = s.con1.ckp; ss = true; pulse = false }

-- An SSEN client is deaf while its select is high: a word under way is forgotten, and edges only update the remembered level.
abbrev pub deaf : Settings → Bool → Bool
deaf s ss = heeds_select s && ss

-- An edge to the level `sck`: one that is not to the idle level may begin a word.
abbrev pub may_begin : Settings → Memory → Bool → Bool → Bool
may_begin s x shown sck = not (beq sck s.con1.ckp) && started_by s x.pulse shown

abbrev pub edge_ops : Sight → Memory → Bool → Bool → List Op
edge_ops v x sck sdi =
    (when may_begin v.settings x v.shown sck then begins ∷ [] else []) ++ (clocks v.sdo sdi ∷ [])

-- The levels SCK, SDI and SS are shown: select first, and an SCK level unlike the remembered one is an edge.
abbrev pub level_ops : Sight → Memory → Bool → Bool → Bool → List Op
level_ops v x sck sdi ss =
    when deaf v.settings ss then forgets ∷ []
    else when beq sck x.sck then []
    else edge_ops v x sck sdi

abbrev pub levels_kept : Sight → Memory → Bool → Bool → Bool → Memory
levels_kept v x busy sck ss =
    record {
      sck = sck;
      ss = ss;
      pulse =
          when deaf v.settings ss || beq sck x.sck then x.pulse
          else stands v.settings v.shown sck ss (not busy);
    }

-- The select level that a tick tells: a frame client's, and else the one that is remembered.
abbrev pub ss_of_tick : Sight → Memory → Bool → Bool
ss_of_tick v x ss = when takes_pulses v.settings then ss else x.ss

-- The levels that a clock step shows: those of a tick to a host with its own clock, and else its own.
abbrev pub sck_of_step : Sight → Memory → Bool → Bool
sck_of_step v x sck = when clocks_itself v.settings.con1 then not x.sck else sck

abbrev pub ss_of_step : Sight → Memory → Bool → Bool
ss_of_step v x ss = when clocks_itself v.settings.con1 then ss_of_tick v x ss else ss

-- A STAT write that turns SPIEN on.
abbrev pub enabled_by : Sight → ℕ → ℕ → Bool
enabled_by v register value = is_done v.answer && (eqb register 0 && (not v.settings.spien && bit_of value 15))

-- What the watcher writes down for each call, by its answer; for a refused one nothing.
abbrev pub entry_of : Memory → Sight → Bool → ℕ → Call → Entry
-- a BUF read told a word
entry_of x v busy edges (Read register) =
    when is_value v.answer && eqb register 3 then notes (reads (said_of v.answer).value ∷ []) else notes []
-- a BUF write was done: the accepted word is the w bits that it kept
entry_of x v busy edges (Write register value) =
    when is_done v.answer && eqb register 3 then notes (accepts (value % 2 ^ word_bits v.settings) ∷ [])
    else when enabled_by v register value then opens
    else notes []
-- a tick made an edge: the clock went to its other level
entry_of x v busy edges (Tick sdi ss) =
    when is_edge v.answer then notes (level_ops v x (not x.sck) sdi (ss_of_tick v x ss)) else notes []
-- a pin call showed its levels
entry_of x v busy edges (Pin sck sdi ss) = when is_done v.answer then notes (level_ops v x sck sdi ss) else notes []
-- a clock step was done
entry_of x v busy edges (ClockStep sck sdi ss) =
    when is_done v.answer then notes (level_ops v x (sck_of_step v x sck) sdi (ss_of_step v x ss)) else notes []
entry_of x v busy edges Clear = notes []

-- What the watcher remembers after it, with a word on the wire then or none.
abbrev pub memory_after : Memory → Sight → Bool → Call → Memory
memory_after x v busy (Read register) = x
memory_after x v busy (Write register value) = when enabled_by v register value then at_enabling v.settings else x
memory_after x v busy (Tick sdi ss) =
    when is_edge v.answer then levels_kept v x busy (not x.sck) (ss_of_tick v x ss) else x
memory_after x v busy (Pin sck sdi ss) = when is_done v.answer then levels_kept v x busy sck ss else x
memory_after x v busy (ClockStep sck sdi ss) =
    when is_done v.answer then levels_kept v x busy (sck_of_step v x sck) (ss_of_step v x ss) else x
memory_after x v busy Clear = x

-- The module and its watcher. Its word order counts while it is enabled.
abbrev pub ours : Watching
ours =
    record {
      State = Module;
      Call = Call;
      step = λ m c. (perform_of m c).after;
      on = λ m. m.settings.spien;
      terms = λ m. terms m.settings;
      port = port_in;
      Sight = Sight;
      sight = sight_of;
      Memory = Memory;
      remembers = memory_after;
      entry = entry_of;
    }

-- A module, what its watcher remembers, and its ledger; these after one call and after a list of calls.
abbrev pub Watched : Type 0
Watched = law.Watched ours

abbrev pub watched_call : Watched → Call → Watched
watched_call x c = law.watched_call ours x c

abbrev pub watched_calls : Watched → List Call → Watched
watched_calls x cs = law.watched_calls ours x cs
