pub mod Narrowing
pub mod Boundaries
pub mod Plans
pub mod Outcomes
