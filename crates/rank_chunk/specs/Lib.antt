pub mod Part
pub mod Small
