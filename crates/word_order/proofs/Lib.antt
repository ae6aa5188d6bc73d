-- The law, a file for each step: bits; a port and its ledger, tied; each operation keeps them so; what the lists grow by; histories
-- that open in the middle of a life; every machine and every list of calls.
pub mod WordBits
pub mod Tied
pub mod Operations
pub mod Lists
pub mod Counts
pub mod Resumed
pub mod Order
