pub mod Nexts
pub mod Fills
pub mod Records
pub mod Promises
