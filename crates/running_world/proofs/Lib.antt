pub mod Beginning
pub mod Breaking
pub mod Forging
pub mod HalfDigests
pub mod Indexing
pub mod Keeping
pub mod KeptPlaces
pub mod LiveSessions
pub mod Newest
pub mod Places
pub mod Preparing
mod Samples
pub mod Signing
pub mod Steps
pub mod Transcribing
pub mod WrittenTexts
