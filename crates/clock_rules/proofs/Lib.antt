-- What follows from the rules of the clock report.
pub mod ClockExact
-- The demands, all of them:
pub mod ClockDemandsHold
