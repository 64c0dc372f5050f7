-- A table of loads: what was set in it is what is read from it.
use Rattle.std.specs.Prelude.{◌≡◌, ℕ, Bool, true, false, List, Option, Some, None, cond, unwrap_or, refl}
use Rattle.std.proofs.Common.{BTreeMap, ap, sym, ◌∙◌}
use Rattle.std.specs.BTreeMap.{get, is_at, IsEmpty}
use Rattle.lb_select_base.specs.Backends.{Member, member_cmp, same_member}
use Rattle.lb_select_base.specs.AddressText.{bare_member}
use Rattle.lb_select_base.specs.Loads.{entries_of, load_in, SetsLoad}

-- the table that is there
pub same_loads : (old : Option (BTreeMap Member ℕ)) (table : BTreeMap Member ℕ) → old ≡ Some table → (q : Member)
    → load_in (entries_of old) q ≡ load_in table.entries q
same_loads old table is q = ap (λ o. load_in (entries_of o) q) is

-- a new one
pub no_loads : (old : Option (BTreeMap Member ℕ)) (table : BTreeMap Member ℕ) → old ≡ None → IsEmpty table → (q : Member)
    → load_in (entries_of old) q ≡ load_in table.entries q
no_loads old table is empty q =
    ap (λ o. load_in (entries_of o) q) is ∙ sym (ap (λ es. load_in es q) empty)

unwrap_or-cond : (b : Bool) (load : ℕ) (o : Option ℕ) → unwrap_or (cond b (Some load) o) 0 ≡ cond b load (unwrap_or o 0)
unwrap_or-cond true load o = refl
unwrap_or-cond false load o = refl

-- what was put in
pub load_set :
    (old : List (Member × ℕ)) (table now : BTreeMap Member ℕ) (key backend : Member) (load : ℕ)
    → ((q : Member) → load_in old q ≡ load_in table.entries q)
    → key ≡ bare_member backend.weight backend.address
    → ((q : Member) → get member_cmp now q ≡ cond (is_at (member_cmp key) q) (Some load) (get member_cmp table q))
    → SetsLoad (load_in old) backend load (load_in now.entries)
load_set old table now key backend load before key_is updates q =
    ap (λ o. unwrap_or o 0) (updates q)
    ∙ unwrap_or-cond (is_at (member_cmp key) q) load (get member_cmp table q)
    ∙ ap (λ k. cond (is_at (member_cmp k) q) load (load_in table.entries q)) key_is
    ∙ ap (λ l. cond (same_member backend q) load l) (sym (before q))
