pub mod KeptNames
pub mod KeptRows
pub mod EachRow
pub mod Standing
pub mod Forms
pub mod Pages
pub mod Answers
pub mod Refusals
pub mod TokenResponses
pub mod InfoResponses
pub mod SignOuts
pub mod TokensApart
pub mod Renewals
pub mod FullTables
pub mod Coming
pub mod Leading
pub mod Granting
pub mod Passwords
pub mod OwnRows
pub mod Drawn
pub mod CodesOnce
pub mod FirstLogin
mod Legality
pub mod InfoSamples
mod ApartSamples
mod AuthenticationSamples
mod CauseSamples
mod FullSamples
mod GrantedSamples
mod RowSamples
pub mod Sessions
