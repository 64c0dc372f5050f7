-- Definitions that only proofs and private functions need: what a run does for one line and at its end, and steps by their words.
pub mod Session
pub mod SlotWords
