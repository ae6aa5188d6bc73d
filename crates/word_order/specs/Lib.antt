-- The law's definitions, each standing on those before it.
pub mod Bits
pub mod Ledger
pub mod Port
pub mod Machine
