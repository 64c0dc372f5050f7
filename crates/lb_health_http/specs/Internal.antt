-- Definitions that only proofs and private functions need: what the parts of reading a body do to the stream.
pub mod Steps
