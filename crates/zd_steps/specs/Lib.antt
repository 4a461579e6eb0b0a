pub mod Runs
pub mod NextStep
pub mod Queues
