pub mod RunLaws
pub mod LimboLaws
pub mod CloseLaws
