-- A word at a time.
pub mod Word
pub mod WordExamples
-- What a buyer signs of it:
pub mod WordDemands
