pub mod Changes
pub mod Routes
pub mod Edges
pub mod Writes
pub mod Promotions
