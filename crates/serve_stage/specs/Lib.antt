pub mod Urls
pub mod Parts
pub mod Stages
pub mod Drafts
