pub mod Row
pub mod Search
pub mod Listed
pub mod Edit
pub mod Union
