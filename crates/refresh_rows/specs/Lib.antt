pub mod TokenRows
pub mod Booked
