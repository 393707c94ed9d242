pub mod Metadata
pub mod Reading
pub mod Document
pub mod Printed
pub mod Laws
