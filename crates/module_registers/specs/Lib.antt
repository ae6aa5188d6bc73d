-- What STAT is shown by.
pub mod Shown
