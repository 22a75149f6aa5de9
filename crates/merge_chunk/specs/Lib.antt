pub mod Ready
pub mod Effects
