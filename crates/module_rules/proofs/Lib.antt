-- What runs and light theorems say of the definitions and the page.
-- The types by one name:
pub mod Types
-- The paper's figures:
pub mod ExamplesHold
-- Sizes, and the two buffers over the ring:
pub mod Sizes
pub mod BuffersOrder
-- The clock step, and the tick and the pin call that are made of it:
pub mod ClockSteps
-- The module of a life is the one that its calls reach:
pub mod LivesReach
-- The page, run at concrete calls:
pub mod Claims
pub mod PageRun
pub mod PageHolds
