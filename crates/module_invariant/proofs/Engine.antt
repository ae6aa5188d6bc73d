-- The invariant of specs/Invariant.antt by its parts: the settings, the engine, and that a disabled engine is empty.
--     engine_of                         the engine of a module that has the invariant
--     reached, reached_on, reached_off  a module has the invariant by its parts, and by fewer if it is enabled or not
-- Assumes nothing.
use Rattle.std.specs.Prelude.{◌≡◌}
use Rattle.laws.proofs.Common.{true, false, sym, ap, subst, clash}
use Rattle.module_rules.proofs.Types.{Settings, Engine, Transmit, Module, Free}
use Rattle.module_rules.specs.Buffers.{empty_transmit}
use Rattle.module_rules.specs.Invariant.{SettingsHold, Emptied, ModuleHolds}
use Rattle.module_invariant.proofs.Parts.{TransmitHolds, ReceiveHolds, EngineHolds}
use Rattle.module_invariant.proofs.BuffersKept.{empty_transmit_holds, empty_receive_holds}
use Rattle.module_invariant.proofs.Shift.{shift_is}

-- The engine of a module that has the invariant.
pub engine_of : (m : Module) → ModuleHolds m → EngineHolds m.settings m.engine
engine_of m h =
    record {
      buffers =
          record {
            transmit = record { ring = h.transmit; cells = h.transmit_cells; fit = h.transmit_words };
            receive = record { ring = h.receive; cells = h.receive_cells; fit = h.receive_words };
          };
      shift = h.shift;
      rest = h.rest;
    }

-- A module has the invariant if its settings and its engine hold, and disabled it is empty.
pub reached : (m : Module) → SettingsHold m.settings → EngineHolds m.settings m.engine →
    (m.settings.spien ≡ false → Emptied m.engine) → ModuleHolds m
reached m s e d =
    record {
      settings = s;
      transmit = e.buffers.transmit.ring;
      receive = e.buffers.receive.ring;
      transmit_cells = e.buffers.transmit.cells;
      receive_cells = e.buffers.receive.cells;
      transmit_words = e.buffers.transmit.fit;
      receive_words = e.buffers.receive.fit;
      shift = e.shift;
      emptied = d;
      rest = e.rest;
    }

-- An enabled module has the invariant if its settings and its engine hold.
pub reached_on : (m : Module) → m.settings.spien ≡ true → SettingsHold m.settings →
    EngineHolds m.settings m.engine → ModuleHolds m
reached_on m on s e = reached m s e (λ off. clash m.settings.spien on off)

-- A disabled engine that is empty holds, whatever the settings.
emptied_holds : (s : Settings) (n : Engine) → s.spien ≡ false → Emptied n → EngineHolds s n
unfolding empty_transmit
emptied_holds s n off e =
    record {
      buffers =
          record {
            transmit = subst (TransmitHolds s) (sym e.transmit) (empty_transmit_holds s);
            receive = subst (ReceiveHolds s) (sym e.receive) (empty_receive_holds s);
          };
      shift =
          shift_is s n Free e.shift
          (λ out. ap (λ (t : Transmit). t.count) e.transmit, λ on. clash s.spien on off);
      rest = λ on. clash s.spien on off;
    }

-- A disabled module that is empty has the invariant if its settings hold.
pub reached_off : (m : Module) → m.settings.spien ≡ false → SettingsHold m.settings → Emptied m.engine →
    ModuleHolds m
reached_off m off s e = reached m s (emptied_holds m.settings m.engine off e) (λ f. e)
