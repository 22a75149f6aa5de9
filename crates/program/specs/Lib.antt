pub mod Faults
pub mod Input
pub mod Turns
pub mod Reader
