pub mod Good
pub mod Fitting
pub mod Standing
pub mod Refused
pub mod Tokens
pub mod Unsealed
pub mod RoundTrip
pub mod Written
mod Samples
