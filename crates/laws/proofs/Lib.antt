-- Laws of choices and of compound tests, equations that can be tested, and numbers that are written into memory.
pub mod Common
pub mod Choices
pub mod Keeps
pub mod Claims
pub mod Stored
