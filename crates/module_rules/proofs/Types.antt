-- The types of one module and their cases, under one roof.
-- Assumes nothing.
pub use Rattle.module_types.specs.declared.Answer.{Answer}
pub use Rattle.module_types.specs.declared.Answer.TheVariants.{Done, Edge, NoEdge, Refused, Value}
pub use Rattle.module_types.specs.declared.Call.{Call}
pub use Rattle.module_types.specs.declared.Call.TheVariants.{Clear, ClockStep, Pin, Read, Tick, Write}
pub use Rattle.module_types.specs.declared.Con1.{Con1}
pub use Rattle.module_types.specs.declared.Con2.{Con2}
pub use Rattle.module_types.specs.declared.Depth.{Depth}
pub use Rattle.module_types.specs.declared.Depth.TheVariants.{Eight, Four, Sixteen}
pub use Rattle.module_types.specs.declared.Engine.{Engine}
pub use Rattle.module_types.specs.declared.Event.{Event}
pub use Rattle.module_types.specs.declared.Event.TheVariants.{Appended, Finished, Left, Taken, Written}
pub use Rattle.module_types.specs.declared.Module.{Module}
pub use Rattle.module_types.specs.declared.Outcome.{Outcome}
pub use Rattle.module_types.specs.declared.Output.{Output}
pub use Rattle.module_types.specs.declared.Output.TheVariants.{High, Low, Undriven}
pub use Rattle.module_types.specs.declared.Pins.{Pins}
pub use Rattle.module_types.specs.declared.Progress.{Progress}
pub use Rattle.module_types.specs.declared.Receive.{Receive}
pub use Rattle.module_types.specs.declared.Refusal.{Refusal}
pub use Rattle.module_types.specs.declared.Refusal.TheVariants.{DifferentModes, Disabled, Enabled, LateSampling, NoRate, NoSuchDepth, NoSuchRegister, Overflowed, ReceiveEmpty, TooManyEdges, TransmitFull, Undivided, UnreadableLine, UnselectedCke, WrongClock}
pub use Rattle.module_types.specs.declared.Settings.{Settings}
pub use Rattle.module_types.specs.declared.Shift.{Shift}
pub use Rattle.module_types.specs.declared.Shift.TheVariants.{Begun, Free, Loaded}
pub use Rattle.module_types.specs.declared.Transmit.{Transmit}
