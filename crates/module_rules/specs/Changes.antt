-- An engine with one of its parts changed, and all else as it was.
use Rattle.std.specs.Prelude.{Bool}
use Rattle.module_types.specs.declared.Transmit.{Transmit}
use Rattle.module_types.specs.declared.Receive.{Receive}
use Rattle.module_types.specs.declared.Shift.{Shift}
use Rattle.module_types.specs.declared.Pins.{Pins}
use Rattle.module_types.specs.declared.Engine.{Engine}

abbrev pub with_transmit : Transmit → Engine → Engine
with_transmit t n =
    record {
      transmit = t;
      receive = n.receive;
      shift = n.shift;
      pins = n.pins;
      spirov = n.spirov;
      interrupt = n.interrupt;
    }

abbrev pub with_receive : Receive → Engine → Engine
with_receive r n =
    record {
      transmit = n.transmit;
      receive = r;
      shift = n.shift;
      pins = n.pins;
      spirov = n.spirov;
      interrupt = n.interrupt;
    }

abbrev pub with_shift : Shift → Engine → Engine
with_shift x n =
    record {
      transmit = n.transmit;
      receive = n.receive;
      shift = x;
      pins = n.pins;
      spirov = n.spirov;
      interrupt = n.interrupt;
    }

abbrev pub with_pins : Pins → Engine → Engine
with_pins p n =
    record {
      transmit = n.transmit;
      receive = n.receive;
      shift = n.shift;
      pins = p;
      spirov = n.spirov;
      interrupt = n.interrupt;
    }

abbrev pub with_spirov : Bool → Engine → Engine
with_spirov b n =
    record {
      transmit = n.transmit;
      receive = n.receive;
      shift = n.shift;
      pins = n.pins;
      spirov = b;
      interrupt = n.interrupt;
    }

abbrev pub with_interrupt : Bool → Engine → Engine
with_interrupt b n =
    record {
      transmit = n.transmit;
      receive = n.receive;
      shift = n.shift;
      pins = n.pins;
      spirov = n.spirov;
      interrupt = b;
    }

-- A pin with another level: SCK, SS, and the level that SDO has or would have; and whether a frame pulse stands.
abbrev pub with_sck : Bool → Engine → Engine
with_sck level n = with_pins (record { sck = level; ss = n.pins.ss; sdo = n.pins.sdo; pulse = n.pins.pulse }) n

abbrev pub with_ss : Bool → Engine → Engine
with_ss level n = with_pins (record { sck = n.pins.sck; ss = level; sdo = n.pins.sdo; pulse = n.pins.pulse }) n

abbrev pub with_sdo : Bool → Engine → Engine
with_sdo level n = with_pins (record { sck = n.pins.sck; ss = n.pins.ss; sdo = level; pulse = n.pins.pulse }) n

abbrev pub with_pulse : Bool → Engine → Engine
with_pulse standing n = with_pins (record { sck = n.pins.sck; ss = n.pins.ss; sdo = n.pins.sdo; pulse = standing }) n
