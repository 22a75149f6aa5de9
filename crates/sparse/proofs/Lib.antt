pub mod Rows
pub mod Halving
pub mod Searches
pub mod Edits
pub mod Inserts
pub mod Merges
pub mod Unions
pub mod Listed
