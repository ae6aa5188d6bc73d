-- Document 02's rules of salvaged traces, and the demands on them.
pub mod Salvage
pub mod SalvageExamples
pub mod SalvageDemands
