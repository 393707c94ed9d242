mod Beginnings
mod Counting
mod Distinct
mod DrawnWords
mod HashedLogins
mod InOrder
mod Joined
mod LinesDo
mod PlayLaws
mod PlayTimes
pub mod Played
mod PlacesTaken
mod Samples
