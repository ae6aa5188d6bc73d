-- What is known of a file's sections while the file is gone through, record by record.
pub use Rattle.trace_right.specs.Levels.{raised_one, raised_by, LevelsAt}
pub use Rattle.trace_counts.specs.Counts.{capped, weight_by, CountsFrom}
