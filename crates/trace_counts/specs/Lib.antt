-- What the contracts of this crate cite, besides the rules of trace files.
pub mod Counts
pub mod Idle
