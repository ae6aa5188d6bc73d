-- Records that make no call, and where the next one lies that may. Playing passes the records between.
pub use Rattle.trace_counts.specs.Idle.{idle, landing, landing_of, PassedFrom}
