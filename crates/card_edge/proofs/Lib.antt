-- The ways through an edge.
pub mod EdgeHolds
