-- The keys that a membership starts, by the memberships that are there.
use Rattle.std.specs.Prelude.{ℕ, Bool, not, List, filter}
use Rattle.std.specs.List.{list_any}
use Rattle.lb_select_base.specs.Backends.{Member, same_member}
use Rattle.lb_select_base.specs.Unique.{distinct}
use Rattle.lb_health_core.specs.Targets.{ViewValue, Candidate, same_key, candidates_of, candidates}

module _ (key_of : Member → Member) where
  -- whether a backend of these views has the key
  abbrev pub has_key : List ViewValue → Member → Bool
  has_key views k = list_any (λ c. same_member k c.key) (candidates key_of views)

  -- whether none of these views has the candidate's key
  abbrev pub is_fresh : List ViewValue → Candidate → Bool
  is_fresh views c = not (has_key views c.key)

  -- the backends of a membership whose keys none of these views has, one for each key
  abbrev pub fresh : List ViewValue → ℕ → List Member → List Candidate
  fresh views id members = filter (is_fresh views) (distinct same_key (candidates_of key_of id members))
