pub mod Choice
pub mod Same
pub mod Writes
