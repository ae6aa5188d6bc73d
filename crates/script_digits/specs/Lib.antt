-- Definitions that contracts cite.
pub mod Digits
