-- Laws of trace files as bytes.
pub mod TraceNumbers
pub mod TraceRecords
pub mod TraceFiles
