-- What follows from the rules of the board.
pub mod BoardExamplesHold
pub mod OwedExamplesHold
