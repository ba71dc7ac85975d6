pub mod Given
pub mod Claimed
pub mod Balanced
pub mod Words
