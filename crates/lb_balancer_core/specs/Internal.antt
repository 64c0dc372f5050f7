-- Definitions that only proofs and private functions need: why a reader stays counted while words are drawn.
pub mod PlainLaws
