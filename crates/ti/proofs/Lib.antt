-- Laws of memory, and the proofs of the calls.
pub mod Stored
pub mod Calls
pub mod Parts
pub mod Edges
pub mod Outcomes
