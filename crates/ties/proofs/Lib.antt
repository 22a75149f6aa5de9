pub mod Ensures
pub mod Contracts
pub mod Entries
pub mod Numbered
pub mod ReadBack
