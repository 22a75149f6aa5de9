pub mod Acts
pub mod Appends
