-- Document 02's rules of the board, and the demands on it.
pub mod Board
pub mod BoardExamples
pub mod BoardDemands
pub mod Owed
pub mod OwedExamples
pub mod OwedDemands
