-- Definitions that only proofs and private functions need: entries on their way to their buckets.
pub mod Parts
pub mod Spread
