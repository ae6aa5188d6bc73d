-- The prescalers for a wanted rate.
pub mod Rate
pub mod RateDemands
pub mod RateExamples
