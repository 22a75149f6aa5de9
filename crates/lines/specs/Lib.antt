pub mod Line
pub mod Reader
pub mod Words
