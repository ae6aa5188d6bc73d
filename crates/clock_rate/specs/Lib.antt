-- The setting that the walk has found.
pub mod Found
