-- What follows from the definitions that the contracts cite.
-- Counts, record by record:
pub mod Counts
-- Records that make no call:
pub mod Idle
