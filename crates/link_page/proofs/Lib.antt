-- What follows from the rules of a linked run.
-- The level of SDO on the wire:
pub mod LinkLevels
-- What a run does at each end, how far it brings its host, and that its client stays selected:
pub mod LinkRuns
pub mod LinkIdle
pub mod LinkSelect
-- Refusals are those of the table:
pub mod LinkRefusals
-- The demands, all of them:
pub mod LinkDemandsHold
-- Each run of the wire's page is one of its runs:
pub mod WireRuns
-- The clock step beneath ticks and pin calls moves nothing:
pub mod LinkBefore
