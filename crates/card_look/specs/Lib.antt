-- A look at a card as one number.
pub mod Look
