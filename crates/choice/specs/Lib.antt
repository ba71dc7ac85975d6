pub mod Worked
pub mod Solved
