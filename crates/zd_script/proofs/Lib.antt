pub mod ReadLaws
pub mod NumberLaws
pub mod FieldLaws
pub mod LineForms
pub mod RequestLaws
pub mod PlanLaws
pub mod GeneratorLaws
pub mod MadePlans
