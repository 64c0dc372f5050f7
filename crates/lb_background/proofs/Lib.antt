pub mod DrivenLemmas
pub mod LawLemmas
pub mod RunLemmas
pub mod ScheduleLemmas
pub mod ServiceLemmas
mod Drives
mod Lines
