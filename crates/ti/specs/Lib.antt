-- A TI module in memory.
pub mod Memory
pub mod Steps
