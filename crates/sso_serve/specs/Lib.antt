pub mod Cores
pub mod Servers
