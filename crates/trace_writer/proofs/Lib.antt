-- What the proofs of several functions use.
mod Placing
mod Kept
mod Files
mod Salvaging
