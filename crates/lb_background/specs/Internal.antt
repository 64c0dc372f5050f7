-- Definitions that only proofs and private functions need: what seats know of a line's word.
pub mod Lines
