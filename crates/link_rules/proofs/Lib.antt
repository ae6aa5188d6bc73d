-- The rules of a linked run, run at concrete calls.
-- The paper's figures:
pub mod LinkExamplesHold
-- The pages:
pub mod LinkPageHolds
pub mod WirePageHolds
