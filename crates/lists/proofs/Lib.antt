pub mod Answered
pub mod AfterWalk
pub mod Outcomes
pub mod Near
pub mod Turns
pub mod Inserting
pub mod Refusals
pub mod Spares
