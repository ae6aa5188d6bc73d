-- The statements of the card's page, and the page.
pub mod Answers
pub mod Flags
pub mod Changes
pub mod DemandsHold
pub mod PageRuns
