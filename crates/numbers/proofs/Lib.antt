pub mod Powers
pub mod Slots
pub mod Signs
pub mod Splits
pub mod Budgets
