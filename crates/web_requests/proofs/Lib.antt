pub mod Unmarked
pub mod RegistryRows
pub mod ReadClaims
pub mod FollowedRequests
pub mod FollowedResponses
pub mod MixedForms
pub mod ForgedTokens
pub mod ForgedAnswers
pub mod Served
pub mod PostedForms
pub mod CarriedMessages
pub mod FoundPlaces
pub mod CarriedLogouts
pub mod Arrivals
pub mod FormsBehind
pub mod Colons
pub mod Positions
mod Samples
