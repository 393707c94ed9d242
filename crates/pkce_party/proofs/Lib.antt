mod KeyTexts
pub mod KeptRows
pub mod Together
mod Living
mod Noted
mod Pairing
mod Taking
mod Timing
pub mod Requesting
mod Sent
mod Samples
