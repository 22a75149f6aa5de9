pub mod Free
pub mod Passes
pub mod Runs
