-- What follows from the rules at once: worked cases, the page at concrete calls, refusals, rates, and the finish by its words.
pub mod ExamplesHold
pub mod RefusalsExact
pub mod ClockExact
pub mod Finishes
pub mod PageRun
pub mod PageHolds
