pub mod Issuing
pub mod Setting
pub mod TextSets
