pub mod Requests
mod Samples
