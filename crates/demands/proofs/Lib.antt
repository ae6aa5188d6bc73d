-- The proof of the page.
pub mod DemandsHold
