-- The demands, gathered.
pub mod Demands
