-- What the contracts of this crate cite, besides the rules of trace files.
pub mod Places
pub mod Passes
pub mod Idle
