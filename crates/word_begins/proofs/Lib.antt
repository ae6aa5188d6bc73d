-- A word call at a word's beginning is that of any module.
pub mod Begins
