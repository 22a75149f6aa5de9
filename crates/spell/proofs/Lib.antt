pub mod Buffers
pub mod Numbers
