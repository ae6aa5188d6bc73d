-- Document 01's rules of one module as definitions that compute, a file for each topic. Read them in this order: each
-- stands on those before it. The demands come first for a buyer: Demands, then what it mentions.
pub mod Changes
pub mod Settings
pub mod Buffers
pub mod Registers
pub mod Refusals
pub mod Interrupts
pub mod Loading
pub mod Bits
pub mod Finish
pub mod Select
pub mod Edge
pub mod Calls
pub mod InBits
pub mod Words
pub mod Invariant
pub mod Examples
pub mod RefusalTable
pub mod Pulses
pub mod Watch
pub mod Lives
pub mod Flags
pub mod Frames
pub mod Demands
