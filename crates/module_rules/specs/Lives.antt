-- Where a module is watched from: power-up, or the middle of its life, for any enabled module that has the invariant of
-- specs/Invariant.antt. The ledger then opens with what the module holds.
use Rattle.std.specs.Prelude.{true, List, ◌≡◌}
use Rattle.word_order.specs.Ledger.{opened}
use Rattle.word_order.specs.Port.{resumed}
use Rattle.module_types.specs.declared.Depth.{Depth}
use Rattle.module_types.specs.declared.Module.{Module}
use Rattle.module_types.specs.declared.Call.{Call}
use Rattle.module_rules.specs.Calls.{powered_at}
use Rattle.module_rules.specs.Invariant.{Reached}
use Rattle.module_rules.specs.Watch.{terms, port_in, Memory, Watched, watched_calls}

pub data Beginning : Type 0 where
  power_up : Depth → Beginning
  mid_life : (m : Module) → Reached m → m.settings.spien ≡ true → Beginning

-- The levels that a module remembers.
abbrev pub levels_in : Module → Memory
levels_in m = record { sck = m.engine.pins.sck; ss = m.engine.pins.ss; pulse = m.engine.pins.pulse }

-- A module that is watched from where it stands.
abbrev pub resumed_at : Module → Watched
resumed_at m = record { now = m; memory = levels_in m; ledger = resumed (terms m.settings) (port_in m) }

abbrev pub begins : Beginning → Watched
begins (power_up depth) = record { now = powered_at depth; memory = levels_in (powered_at depth); ledger = opened }
begins (mid_life m holds enabled) = resumed_at m

-- A watched module after some calls.
abbrev pub life : Beginning → List Call → Watched
life b cs = watched_calls (begins b) cs
