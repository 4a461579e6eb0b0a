pub mod Picks
pub mod Due
pub mod Works
pub mod ReclaimRows
