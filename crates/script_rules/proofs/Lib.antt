-- What follows from the rules of the script program.
pub mod ScriptLines
pub mod ScriptSizes
pub mod ScriptText
pub mod SessionWhole
pub mod Texts
-- The paper's figures:
pub mod ScriptExamplesHold
-- The demands, all of them:
pub mod ScriptDemandsHold
-- The clock step beneath ticks and pin calls moves nothing:
pub mod ScriptBefore
