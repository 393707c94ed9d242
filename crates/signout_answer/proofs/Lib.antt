pub mod Inside
pub mod Questioning
pub mod Refusals
pub mod Yes
pub mod Providing
pub mod SignOuts
pub mod Samples
