-- A walk that holds its selector, as contracts see it: the selector, and what the walk keeps from candidate to candidate.
pub record Held (S W : Type 0) : Type 0 where
  pub selector : S
  pub walk : W
