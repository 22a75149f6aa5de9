pub mod Rows
pub mod Judging
pub mod Planning
