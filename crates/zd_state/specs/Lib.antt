pub mod Seen
pub mod Started
pub mod Puts
pub mod ClosedImages
pub mod JobCalls
pub mod Joins
