-- The worked cases are run; and the page, run at concrete calls.
pub mod ExamplesHold
pub mod PageRun
pub mod PageHolds
