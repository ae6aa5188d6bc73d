-- What a caller is told of a call.
pub mod Told
