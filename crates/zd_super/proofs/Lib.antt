pub mod StepLaws
pub mod FrontLaws
