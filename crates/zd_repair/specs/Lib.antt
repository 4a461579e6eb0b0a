pub mod Heads
pub mod Reheaded
pub mod Relabeled
pub mod Upgraded
pub mod Repaired
pub mod Committed
pub mod Finished
pub mod Repairing
