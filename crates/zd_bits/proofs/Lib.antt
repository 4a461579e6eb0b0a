pub mod RangeLaws
pub mod MaskLaws
pub mod CountLaws
pub mod WordLaws
pub mod BetweenLaws
