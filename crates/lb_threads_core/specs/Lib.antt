pub mod CellWords
pub mod FlagWords
pub mod Gates
pub mod Internal
pub mod Keyed
pub mod Registry
pub mod View
pub mod Words
