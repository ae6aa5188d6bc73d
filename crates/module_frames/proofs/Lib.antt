-- An edge in the ledger, then every call of a framed module, frames, and fillers.
pub mod Seen
pub mod Calls
pub mod FramesHold
pub mod Fillers
