-- What the proofs of several functions use.
pub mod Answers
mod Outputs
