-- The settings in a number, memory read back, the rings and their steps, and the calls.
pub mod Frames
pub mod Stored
pub mod Rings
pub mod RingSteps
pub mod CallsHold
pub mod AnyRing
