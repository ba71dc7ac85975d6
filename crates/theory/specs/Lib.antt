pub mod Sums
pub mod Pictures
pub mod Nets
pub mod Fields
pub mod Sheets
pub mod Levels
pub mod Table
pub mod Promises
