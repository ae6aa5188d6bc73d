-- What a waveform shows of a module, and the text of what changes in it.
pub mod Wave
