pub mod Signs
pub mod Rounded
pub mod Intervals
pub mod Demand
