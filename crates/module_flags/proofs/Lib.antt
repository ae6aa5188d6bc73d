-- The interrupt conditions, each step's flags, and then every call; reads and SDO.
pub mod Raised
pub mod Finish
pub mod Happened
pub mod Steps
pub mod Levels
pub mod Calls
pub mod Sdo
pub mod Registers
pub mod LastEdge
pub mod Changes
