-- The proof that the wire delivers.
-- The module's part: what the host's call and the client's call of a turn enter, and the levels that they carry:
pub mod Calls
-- Both ends: a turn, a run, and the page:
pub mod Turns
pub mod Runs
pub mod Words
pub mod WireDelivers
-- The page, run:
pub mod PageRuns
