-- What the code of an edge computes.
pub mod Shown
