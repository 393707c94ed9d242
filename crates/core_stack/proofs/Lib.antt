pub mod Held
pub mod Both
pub mod Numbers
pub mod Merging
pub mod Passing
pub mod Stepping
pub mod Stacking
pub mod OnePair
pub mod Same
pub mod Added
pub mod Provided
pub mod NewWords
pub mod Marked
pub mod Rooms
pub mod MarksHeld
pub mod Samples
mod RelySamples
