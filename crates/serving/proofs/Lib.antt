pub mod Making
pub mod MemoryLine
pub mod Calls
pub mod LinkEnds
pub mod Printed
pub mod Doing
pub mod Rounds
pub mod Asking
pub mod Telling
pub mod Stopping
pub mod Histories
pub mod Workers
pub mod Dealing
pub mod Sharing
pub mod Seatings
pub mod Summing
pub mod Firsts
mod Samples
mod ServerSamples
