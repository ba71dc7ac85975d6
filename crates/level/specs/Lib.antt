pub mod Scenes
pub mod Moves
pub mod Levels
pub mod Carries
