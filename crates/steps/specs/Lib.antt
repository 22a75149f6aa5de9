pub mod Steps
pub mod Effects
pub mod Ready
