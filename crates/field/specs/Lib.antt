pub mod Limits
pub mod Given
pub mod Firsts
pub mod Rules
pub mod Taken
pub mod Viewed
pub mod Sides
pub mod Costed
