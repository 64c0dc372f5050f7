pub mod BoardRule
pub mod Pass
pub mod Watched
