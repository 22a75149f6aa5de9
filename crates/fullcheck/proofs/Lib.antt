pub mod Decide
pub mod Running
