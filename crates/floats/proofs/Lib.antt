-- One division of two whole numbers.
pub mod Quotients
