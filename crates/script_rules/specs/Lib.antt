-- Document 01's rules of the script program, and the demands on it.
pub mod Script
pub mod Session
pub mod Texts
pub mod ScriptExamples
pub mod ScriptDemands
