pub mod Printing
pub mod Params
pub mod Reading
pub mod Parts
pub mod Sent
pub mod Laws
