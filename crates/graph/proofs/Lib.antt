pub mod Counts
pub mod Filling
pub mod Leaving
pub mod Pushes
pub mod Sides
