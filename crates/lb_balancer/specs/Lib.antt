pub mod FlaggedSame
pub mod History
pub mod Kept
pub mod Made
pub mod Selections
pub mod SharedUpdates
pub mod Shown
pub mod Texts
