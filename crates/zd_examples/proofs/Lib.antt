pub mod Seeds
pub mod Marks
pub mod Forms
pub mod Chosen
pub mod LoopRuns
