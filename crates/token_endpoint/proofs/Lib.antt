pub mod Joined
pub mod Spelled
pub mod Lookups
mod NameSets
pub mod Clients
pub mod Headers
pub mod Authenticating
pub mod Requests
pub mod Refused
pub mod RoundTrip
pub mod Responses
pub mod Fitting
pub mod OnLiterals
mod Samples
pub mod OfClients
