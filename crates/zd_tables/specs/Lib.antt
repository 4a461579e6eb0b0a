pub mod Tables
pub mod Changes
pub mod Held
pub mod Counts
pub mod Rules
