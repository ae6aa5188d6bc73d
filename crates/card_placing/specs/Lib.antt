-- Where an enabled card stands.
pub mod Stage
