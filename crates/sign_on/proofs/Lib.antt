pub mod Agreeing
mod AnswerElsewhere
pub mod AskKinds
pub mod Bound
pub mod BrokenPremises
pub mod Entering
mod EqualWords
mod ForgedToken
pub mod Founding
pub mod Invariant
pub mod IssuedHashes
pub mod Keys
pub mod Leaving
pub mod Lists
pub mod LiveRows
pub mod Logouts
pub mod OpOuts
pub mod OpPlaces
pub mod OpRows
pub mod OpSessions
pub mod OpSigns
pub mod Pairs
pub mod ReadTokens
pub mod Registry
pub mod RpPlaces
pub mod SameBrowser
mod Samples
pub mod Shared
mod StolenCookie
pub mod Texts
