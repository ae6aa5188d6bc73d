-- Document 01's rules of the clock report, and the demands on it.
pub mod Clock
pub mod ClockDemands
