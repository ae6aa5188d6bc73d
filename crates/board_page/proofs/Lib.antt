-- What follows from the rules of the board.
pub mod BoardCalls
pub mod BoardLives
pub mod BoardDemandsHold
-- The words that it owes:
pub mod OwedCounts
pub mod OwedMoves
pub mod OwedDemandsHold
