-- What follows from the definitions of trace files.
pub mod TraceBelow
pub mod TraceLevels
pub mod TraceContents
pub mod TracePlaces
pub mod TraceRight
pub mod TraceOrder
pub mod TraceRuns
pub mod TraceDemandsHold
-- The clock step beneath ticks and pin calls moves nothing:
pub mod TraceBefore
