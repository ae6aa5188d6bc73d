-- Document 02's rules of saved sessions, and the demands on them.
pub mod Save
pub mod SaveExamples
pub mod SaveDemands
