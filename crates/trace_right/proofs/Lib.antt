-- What follows from the definitions that the contracts cite.
-- The table of contents:
pub mod Contents
-- Levels, and right records, record by record:
pub mod Levels
