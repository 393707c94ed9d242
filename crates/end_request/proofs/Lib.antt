pub mod Returned
pub mod Loops
pub mod Naming
pub mod OfClients
pub mod Sending
pub mod Samples
