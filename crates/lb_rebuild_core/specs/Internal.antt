-- Definitions that only proofs and private functions need: a slot at its start, what seats know of a gate's word, and rows.
pub mod Fresh
pub mod GateRule
pub mod Rows
