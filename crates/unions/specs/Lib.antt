pub mod Union
pub mod Takes
pub mod Joinable
