-- What crosses the boundary.
pub mod Numbers
