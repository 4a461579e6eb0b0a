pub mod PutLaws
pub mod OneMore
