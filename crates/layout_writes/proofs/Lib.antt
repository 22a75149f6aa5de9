pub mod Fills
pub mod SetUps
pub mod Gaps
