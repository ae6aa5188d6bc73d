-- What a word at a time comes to.
-- The definition, run:
pub mod WordExamplesHold
-- The same in closed form, value by value and for all edges of a word:
pub mod Closed
pub mod Values
pub mod WordMade
pub mod WordHolds
-- What it tells fits the fields of its number:
pub mod Fits
