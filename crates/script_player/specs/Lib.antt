-- What the contracts of this crate cite, besides the rules of the script program.
pub mod SessionIn
