pub mod HalfHash
pub mod Claims
pub mod Reading
pub mod Sealing
pub mod Token
pub mod Judging
pub mod Laws
