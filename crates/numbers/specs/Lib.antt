pub mod Ids
pub mod Budget
