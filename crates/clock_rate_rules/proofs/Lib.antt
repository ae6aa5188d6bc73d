-- What the prescalers for a wanted rate come to.
pub mod RateExamplesHold
pub mod RateHolds
