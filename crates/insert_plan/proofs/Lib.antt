pub mod Gates
pub mod Readies
