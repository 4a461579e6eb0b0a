pub mod Roles
pub mod Bits
pub mod Padded
pub mod Examined
pub mod Opened
