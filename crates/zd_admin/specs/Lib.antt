pub mod Words
pub mod Shown
pub mod Rows
pub mod Output
pub mod Answers
pub mod Ends
pub mod Admin
