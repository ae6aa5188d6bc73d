-- What playing a trace file over a module in memory comes to.
pub mod Playing
