pub mod Beginning
pub mod LiveInBoth
pub mod RoomFor
pub mod MadeSessions
pub mod MadeRows
pub mod Ranges
pub mod Places
pub mod FoundTurns
mod MakingSamples
mod OutcomeSamples
pub mod Outcomes
pub mod Stepping
pub mod Committing
