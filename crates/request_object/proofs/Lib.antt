pub mod Forms
pub mod Standing
pub mod Refused
pub mod Objects
pub mod RoundTrip
pub mod Fitting
pub mod Written
mod Samples
