pub mod Marks
pub mod Chunks
pub mod Ways
pub mod Appends
