pub mod Carries
pub mod Closings
pub mod Augments
pub mod Works
