-- The demands on a word at a time: the look at the edges owed, what the ledger enters of the edges of a word, and the page.
pub mod EdgesOwed
pub mod Entered
pub mod Noted
pub mod Begins
pub mod WordDemandsHold
