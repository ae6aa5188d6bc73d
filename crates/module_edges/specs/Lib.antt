-- What begins at an edge.
pub mod Beginning
