-- What is owed, what an edge and then each call do to it, and the statement of the page.
pub mod Parts
pub mod Edge
pub mod Calls
pub mod Hold
