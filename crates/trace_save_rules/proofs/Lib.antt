-- What follows from the rules of saved sessions.
pub mod SaveExamplesHold
pub mod SaveFile
pub mod SaveLines
pub mod SaveDemandsHold
