-- Whole numbers as floats.
pub mod Whole
