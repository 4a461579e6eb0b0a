pub mod Flags
pub mod Zones
pub mod Order
pub mod Links
pub mod LeastTree
pub mod Candidates
