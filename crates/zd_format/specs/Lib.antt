pub mod Fresh
pub mod Sets
