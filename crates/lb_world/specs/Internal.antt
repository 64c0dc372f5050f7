-- Definitions that only proofs and private functions need: what small calls answer, which cells an update starts, and steps at a group.
pub mod Calls
pub mod Cells
pub mod GroupSteps
