pub mod Sifting
pub mod UserTexts
pub mod Filtered
pub mod Told
pub mod BearerHeaders
pub mod Answering
pub mod RoundTrip
pub mod Configured
mod Samples
