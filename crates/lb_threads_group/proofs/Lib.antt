pub mod Crossings
pub mod Entries
mod Findings
pub mod NumberLemmas
pub mod Releases
pub mod Selections
pub mod Sites
mod Unlisted
