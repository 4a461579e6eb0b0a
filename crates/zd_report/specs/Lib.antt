pub mod Rows
pub mod Fields
pub mod Told
pub mod Fixed
pub mod Summary
pub mod Counting
