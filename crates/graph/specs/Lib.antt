pub mod Few
pub mod Arcs
pub mod Fit
pub mod Flowed
pub mod Owned
