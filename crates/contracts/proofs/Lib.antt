pub mod Steps
pub mod Readings
pub mod SetUps
pub mod Joins
pub mod Spares
pub mod Takes
