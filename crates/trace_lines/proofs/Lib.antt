pub mod Accepting
pub mod ByCount
pub mod Counting
pub mod Cutting
pub mod Decimals
pub mod FirstWords
pub mod Keeping
pub mod LeastFault
pub mod LineReading
pub mod PlainText
pub mod Refusing
pub mod Saying
pub mod Seeds
mod Samples
