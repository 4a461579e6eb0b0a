pub mod Geometry
pub mod Layout
pub mod Faults
