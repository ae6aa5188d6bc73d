-- The law of two ports on one wire: lists of words that pass; what departs at one end, by itself; what arrives at the other; what each
-- has in the end.
pub mod Lists
pub mod Departs
pub mod Arrives
pub mod Exchanged
