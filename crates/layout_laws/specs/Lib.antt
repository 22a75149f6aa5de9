pub mod Chunks
pub mod StandsFor
