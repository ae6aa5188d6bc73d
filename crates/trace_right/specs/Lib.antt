-- What the contracts of this crate cite, besides the rules of trace files.
pub mod Ends
pub mod Judged
pub mod Levels
