-- A card in memory, its two rings, and what its calls come to.
pub mod Memory
pub mod Rings
pub mod Answered
