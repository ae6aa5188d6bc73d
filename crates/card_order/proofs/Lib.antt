-- The bits of a sample, an edge by its words, the figures of the frame, and the machine.
pub mod Sampling
pub mod EdgeWords
pub mod FiguresHold
pub mod Order
