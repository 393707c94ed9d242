pub mod Samples
pub mod OpSends
pub mod Sends
pub mod Serving
