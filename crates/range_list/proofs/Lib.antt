pub mod AfterWalk
pub mod Told
pub mod Upto
pub mod Records
pub mod Columns
pub mod Outcomes
