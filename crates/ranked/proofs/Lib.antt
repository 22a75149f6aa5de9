pub mod Modes
pub mod Answers
pub mod Forms
