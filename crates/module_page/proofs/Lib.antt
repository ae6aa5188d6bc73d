-- Word order as the page has it, the whole page, and the page run at long lists of calls.
pub mod WordOrder
pub mod DemandsHold
pub mod PageRuns
