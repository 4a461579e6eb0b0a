pub mod Possible
pub mod NextSteps
pub mod JobSteps
pub mod Remaps
