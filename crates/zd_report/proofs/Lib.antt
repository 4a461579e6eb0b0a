pub mod Items
pub mod Patterns
pub mod LineText
pub mod Found
pub mod Ok
pub mod Told
pub mod Slices
pub mod CountLaws
