-- Channels by their edges, the stages of a card, its life, and the placing.
pub mod Channels
pub mod Stages
pub mod Life
pub mod Placing
