pub mod BoardSteps
pub mod Words
pub mod Shown
pub mod Crossings
