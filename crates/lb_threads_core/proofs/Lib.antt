mod CellLemmas
pub mod Exchanges
mod FlagLemmas
pub mod Histories
mod Memberships
pub mod Registrations
pub mod SameReadiness
mod Updates
mod WordSteps
