-- What the proofs of several functions use.
mod Powers
mod Making
mod First
