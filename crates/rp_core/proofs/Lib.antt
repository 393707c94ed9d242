mod LiveInBoth
pub mod KeptRows
mod Answered
mod KeptTables
mod Carried
mod RoomFor
mod TakenUp
mod MadeRows
mod Places
mod Beginning
mod Committing
mod Samples
mod FetchSamples
mod LogoutSamples
