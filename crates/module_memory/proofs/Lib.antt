-- Laws of looks and of stores.
pub mod Stored
pub mod Looks
pub mod Rings
pub mod Bytes
pub mod Registers
pub mod Taken
