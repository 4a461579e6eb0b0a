pub mod Admins
pub mod FoundReplays
pub mod Founds
pub mod Replays
pub mod Spelling
pub mod Table
