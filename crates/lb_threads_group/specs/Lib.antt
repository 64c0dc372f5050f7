pub mod Found
pub mod Group
pub mod Kept
pub mod Numbers
pub mod Passes
pub mod SameReadiness
pub mod Shared
