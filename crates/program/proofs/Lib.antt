pub mod Parts
pub mod Inputs
pub mod Same
pub mod Cases
