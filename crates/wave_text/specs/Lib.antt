-- What a waveform's file says before its first step and behind its last one.
pub mod File
