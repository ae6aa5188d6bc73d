-- What the proofs of several functions use, here and in crate thurafeqa, and that no two outcomes meet a contract.
pub mod Asks
pub mod Boarding
pub mod Owing
pub mod OneOutcome
