-- A linked run a word at a time.
pub mod LinkWords
pub mod LinkWordExamples
