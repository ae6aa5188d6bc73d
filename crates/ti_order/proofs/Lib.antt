-- What edges latch and show, what calls keep, the module as a machine of the law, and the page.
pub mod Latching
pub mod Invariant
pub mod Order
pub mod Machine
pub mod Changes
pub mod Seen
pub mod DemandsHold
