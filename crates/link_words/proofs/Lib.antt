-- A word at both ends of a linked run is so many turns.
-- The definition, run:
pub mod LinkWordExamplesHold
-- The levels of one end as the word that the other end samples:
pub mod Heard
-- One end at a word's beginning:
pub mod Begins
-- One turn, and all turns of a word:
pub mod Turn
pub mod WordTurns
