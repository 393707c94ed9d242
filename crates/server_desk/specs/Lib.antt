pub mod Ahead
pub mod Doors
pub mod Links
pub mod Sources
