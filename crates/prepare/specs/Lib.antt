pub mod PreparePlan
pub mod Ready
