-- A look's parts.
pub mod Looks
