pub mod Balances
pub mod Pairs
pub mod Rules
pub mod Words
