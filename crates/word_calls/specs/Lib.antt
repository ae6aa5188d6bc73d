-- A word call in memory.
pub mod Speaking
