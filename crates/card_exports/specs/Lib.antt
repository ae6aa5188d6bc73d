-- Levels as numbers.
pub mod Levels
