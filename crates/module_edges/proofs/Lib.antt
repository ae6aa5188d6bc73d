-- Laws of the edges.
pub mod Begins
