-- What calls keep of a card.
pub mod Invariant
