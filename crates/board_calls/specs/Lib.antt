-- What a caller is told of the board.
pub mod Boards
pub mod Owing
