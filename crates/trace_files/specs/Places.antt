-- Records by their places in the file.
pub use Rattle.trace_numbers.specs.Places.{entry_at, entries_at}
pub use Rattle.trace_right.specs.Ends.{gapless_end, stated_end, ended}
