-- What the lines of a script are, one after the other.
pub mod Lines
