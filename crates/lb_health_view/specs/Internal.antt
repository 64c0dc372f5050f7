-- Definitions that only proofs and private functions need: what a view keeps apart from what contracts see of it.
pub mod Hints
pub mod ViewInvariants
