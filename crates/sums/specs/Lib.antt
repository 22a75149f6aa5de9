pub mod Sums
pub mod Rules
pub mod Ids
pub mod Cuts
pub mod Members
pub mod Planned
pub mod Cases
