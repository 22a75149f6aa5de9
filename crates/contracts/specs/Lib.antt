pub mod Runs
pub mod Does
pub mod Takes
