-- Laws of rings: positions, contents, and rings of words.
pub mod Positions
pub mod Contents
pub mod Buffer
