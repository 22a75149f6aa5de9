pub mod ChunkTurn
pub mod Steady
pub mod PreparePlans
