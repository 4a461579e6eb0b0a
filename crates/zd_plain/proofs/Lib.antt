pub mod WordLaws
pub mod PieceLaws
