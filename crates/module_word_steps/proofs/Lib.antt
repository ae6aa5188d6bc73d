-- What the proofs of several functions use.
mod Loads
mod Raised
mod Rings
