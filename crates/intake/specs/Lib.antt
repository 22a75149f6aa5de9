pub mod Puts
pub mod Turned
