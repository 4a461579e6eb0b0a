pub mod Plan
pub mod Cuts
