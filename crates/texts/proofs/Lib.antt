pub mod Lines
pub mod Plans
