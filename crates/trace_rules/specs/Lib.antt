-- Document 02's rules of trace files, and the demands on them.
pub mod Trace
pub mod TraceBytes
pub mod TraceExamples
pub mod TraceDemands
