pub mod KnownWords
pub mod PartyRows
pub mod Sealable
pub mod Printed
pub mod Asked
pub mod SignedEnds
pub mod Apart
pub mod Samples
