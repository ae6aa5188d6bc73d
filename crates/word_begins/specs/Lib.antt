-- A word call at a word's beginning.
pub mod Beginning
