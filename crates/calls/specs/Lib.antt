pub mod Reading
pub mod Counts
pub mod Range
pub mod Iteration
pub mod Planned
pub mod Insert
pub mod Prepare
