pub mod Residuals
pub mod Standing
pub mod Trees
