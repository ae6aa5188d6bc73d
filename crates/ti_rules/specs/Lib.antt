-- Request Ten's rules of the TI module, each file standing on those before it; then the page of demands on it, from its watcher on.
pub mod Settings
pub mod Characters
pub mod Finish
pub mod Edge
pub mod Refusals
pub mod Calls
pub mod Clock
pub mod Watch
pub mod Flags
pub mod RefusalTable
pub mod Examples
pub mod Demands
