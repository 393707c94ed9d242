pub mod Answering
pub mod Endings
pub mod Fetched
pub mod Known
pub mod Samples
pub mod Told
