pub mod FlagLemmas
pub mod HintLemmas
pub mod LookupLemmas
pub mod OwnCellLemmas
pub mod SnapshotLemmas
pub mod ViewLemmas
pub mod PassLemmas
pub mod UpdateLemmas
