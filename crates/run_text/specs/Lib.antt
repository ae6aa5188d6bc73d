-- What the programs write, where std has no word for it.
pub mod Hex
pub mod Line
