pub mod Firsts
pub mod Rows
pub mod Verdicts
pub mod Aboves
pub mod Bends
pub mod Triples
pub mod Chunks
