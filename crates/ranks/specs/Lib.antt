pub mod Rank
pub mod Form
