pub mod Fitting
pub mod Good
pub mod Standing
pub mod Refused
pub mod RoundTrip
pub mod Written
pub mod Tokens
pub mod Unsealed
pub mod Audience
mod Samples
