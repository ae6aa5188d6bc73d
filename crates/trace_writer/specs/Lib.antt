-- What the contracts of this crate cite, besides the rules of saved sessions.
pub mod Heads
