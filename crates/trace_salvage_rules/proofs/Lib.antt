-- What follows from the definitions of salvaged traces.
pub mod SalvageExamplesHold
pub mod SalvageTables
pub mod SalvageKeeps
pub mod SalvageFile
pub mod SalvageOne
pub mod SalvageDemandsHold
pub mod Tables
