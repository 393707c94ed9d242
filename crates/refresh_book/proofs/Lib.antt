pub mod Owning
pub mod Booking
pub mod Renewed
pub mod Passed
pub mod Looking
pub mod Left
pub mod Committing
mod Samples
