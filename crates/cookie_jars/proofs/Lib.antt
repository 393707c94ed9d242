mod Jarring
mod Samples
