pub mod CompareLaws
pub mod VerdictLaws
