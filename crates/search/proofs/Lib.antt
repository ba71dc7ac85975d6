pub mod Standings
pub mod Trees
