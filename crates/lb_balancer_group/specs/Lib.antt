pub mod Made
pub mod Readiness
