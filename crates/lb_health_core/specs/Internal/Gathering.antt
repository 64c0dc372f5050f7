-- What was gathered of the targets, after some of the candidates.
use Rattle.std.specs.Prelude.{◌≡◌, ℕ, List, ◌++◌}
use Rattle.std.specs.BTreeSet.{contains}
use Rattle.std.specs.List.{list_any}
use Rattle.lb_select_base.specs.Backends.{Member, member_cmp, same_member}
use Rattle.lb_select_base.specs.Unique.{distinct}
use Rattle.lb_health_core.specs.declared.targets.Gathered.{Gathered}
use Rattle.lb_health_core.specs.Targets.{Candidate, candidates_of, same_key, in_order}

-- the keys of these candidates have their targets, in order
pub record Gathers (cs : List Candidate) (g : Gathered) : Type 0 where
  pub taken : (q : Member) → contains member_cmp g.taken q ≡ list_any (λ c. same_member q c.key) cs
  pub order : g.order.entries ≡ in_order (distinct same_key cs)

-- the same on the way through a view's members: some candidates, and with those of the rest the whole
pub record IsGathering (key_of : Member → Member) (id : ℕ) (rest : List Member) (whole : List Candidate) (g : Gathered) : Type 0 where
  pub passed : List Candidate
  pub gathers : Gathers passed g
  pub left : passed ++ candidates_of key_of id rest ≡ whole
