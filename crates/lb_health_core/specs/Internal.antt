-- Definitions that only proofs and private functions need: what a table is while it changes, which keys start, what was gathered of the
-- targets so far, what an update of a view prepares and gives, and what a row knows of cells.
pub mod Changing
pub mod Gathering
pub mod Replacing
pub mod Row
