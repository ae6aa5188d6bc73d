-- Every call keeps the invariant, and what it is good for.
-- What the proofs speak of, and sampled edges:
pub mod Parts
pub mod Sampling
-- The buffers, the shift register, and each step of a call:
pub mod BuffersKept
pub mod Shift
pub mod Finish
pub mod Edge
pub mod Buf
pub mod Engine
pub mod Settings
pub mod Holds
pub mod CallCases
pub mod CallsWhen
-- Losses, a finish by its words, the select level, the pulse:
pub mod Losses
pub mod FinishWords
pub mod Select
pub mod Pulses
pub mod Pulse
-- What the invariant is good for:
pub mod Uses
pub mod Words
-- Refusals: a refused call changes nothing, refusals are those of the table, and answers are in kind:
pub mod RefusalsUnchanged
pub mod RefusalsExact
pub mod RefusalsKinds
-- Power-up with a depth:
pub mod PowersUp
