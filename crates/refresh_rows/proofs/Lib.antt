pub mod Keys
pub mod Lists
pub mod LeftOut
pub mod Books
pub mod Looking
mod Samples
