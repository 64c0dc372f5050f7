-- Memberships: the sets of backends that updates bring.
use Rattle.std.specs.Prelude.{Bool, ◌&&◌, List, [], fold}
use Rattle.std.specs.List.{list_all, list_any}
use Rattle.std.specs.BTreeSet.{insert_key}
use Rattle.lb_select_base.specs.Backends.{Member, member_cmp, same_member}

-- the set of the backends listed, in order; of several of one identity the first stays
abbrev pub set_of : List Member → List Member
set_of listed = fold (insert_key member_cmp) [] listed

-- the same identities, whatever is attached to them
abbrev pub same_members : List Member → List Member → Bool
same_members xs ys = list_all (λ x. list_any (same_member x) ys) xs && list_all (λ y. list_any (same_member y) xs) ys
