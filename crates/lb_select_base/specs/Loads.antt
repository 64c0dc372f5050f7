-- Loads of backends, set one by one: the load of an identity is what was set for it last, and 0 where nothing was.
use Rattle.std.specs.Prelude.{◌≡◌, ℕ, List, [], Option, Some, None, Result, IfOk, IfErr, cond, unwrap_or}
use Rattle.std.proofs.Common.{BTreeMap}
use Rattle.std.specs.BTreeMap.{is_at}
use Rattle.std.specs.Map.{lookup}
use Rattle.lb_select_base.specs.Backends.{Member, member_cmp, same_member}
use Rattle.lb_select_base.specs.declared.refusal.Refusal.{Refusal}
use Rattle.lb_select_base.specs.declared.refusal.Refusal.TheVariants.{OutOfMemory}

-- what was set
abbrev pub entries_of : Option (BTreeMap Member ℕ) → List (Member × ℕ)
entries_of None = []
entries_of (Some table) = table.entries

-- the load of a backend by what was set
abbrev pub load_in : List (Member × ℕ) → Member → ℕ
load_in entries m = unwrap_or (lookup (is_at (member_cmp m)) entries) 0

-- from one meaning of loads to another the load of one identity was set
abbrev pub SetsLoad : (Member → ℕ) → Member → ℕ → (Member → ℕ) → Type 0
SetsLoad before m load after = (q : Member) → after q ≡ cond (same_member m q) load (before q)

-- the load of one identity was to be set, and the call answered r: what loads meant before, and mean after
pub record IsLoadAnswer (before : Member → ℕ) (backend : Member) (load : ℕ) (r : Result (Unit {0}) Refusal) (after : Member → ℕ)
    : Type 0 where
  -- where it isn't refused, the identity has this load, and others have theirs
  pub set : IfOk r (λ _. SetsLoad before backend load after)
  -- it is refused for memory alone, and each load is as it was then
  pub refused : IfErr r (λ e. (e ≡ OutOfMemory) × ((m : Member) → after m ≡ before m))
