pub mod Accepts
pub mod Crossings
pub mod FirstSlots
pub mod Handles
mod Registrations
