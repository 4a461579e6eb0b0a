pub mod Fault
pub mod Number
pub mod Line
pub mod Limits
pub mod Read
pub mod Generator
