pub mod Played
pub mod Traces
