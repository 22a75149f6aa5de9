pub mod Gate
pub mod Ready
