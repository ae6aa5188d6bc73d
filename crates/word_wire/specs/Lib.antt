-- What passes between two ports.
pub mod Wire
