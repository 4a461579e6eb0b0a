pub mod TellLaws
pub mod StageLaws
