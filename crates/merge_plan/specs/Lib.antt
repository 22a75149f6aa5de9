pub mod Sides
pub mod Judging
pub mod Planning
