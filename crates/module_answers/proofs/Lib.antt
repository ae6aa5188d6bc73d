-- Laws of calls and of edges.
pub mod Answers
pub mod Edges
pub mod Turns
