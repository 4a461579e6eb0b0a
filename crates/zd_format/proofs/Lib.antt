pub mod PlaceLaws
pub mod RunLaws
pub mod SetLaws
pub mod FreshLaws
pub mod VolumeLaws
pub mod SameSets
