-- The rules of trace files, run on files.
pub mod TraceExamplesHold
