-- The module is a machine of the law of word order.
pub mod Ports
pub mod Edges
pub mod Levels
pub mod Calls
pub mod Resumed
pub mod Order
pub mod Dropped
