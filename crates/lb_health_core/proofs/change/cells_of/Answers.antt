use Rattle.std.proofs.Common.{◌≡◌, true, false, cond, ℕ, List, ◌∷◌, Some, refl, sym, subst, ap, ◌∙◌, fold, rules}
use Rattle.std.specs.BTreeMap.{insert_entry}
use Rattle.std.specs.List.{list_any, filter_map, cons_option}
use Rattle.std.specs.Option.{option_map}
use Rattle.std.specs.Map.{lookup}
use Rattle.std.specs.Prelude.{IsSome, ◌||◌}
use Rattle.lb_select_base.specs.Backends.{Member, member_cmp, same_member}
use Rattle.lb_select_base.proofs.Turns.{same_equiv}
use Rattle.lb_health_core.specs.Registry.{HasOwnCells}
use Rattle.lb_health_core.specs.RegistryEvents.{cell_pair}
use Rattle.lb_health_core.specs.Starts.{cell_now}
use Rattle.lb_health_core.proofs.change.cells_of.Goals as goal
use Rattle.lb_health_core.proofs.change.cells_of.Goals.{in-Some-copied+in_ok-clone+in_ok-insert, in_default}

-- a member whose key has a cell
told-insert : (key_of : Member → Member) (all : List (List Member)) (b : Member) (left : List Member) (old new cells : List (Member × ℕ))
    (cell : ℕ)
    → cell_now same_member all (key_of b) ≡ Some cell → new ≡ insert_entry member_cmp old b cell
    → fold (λ entries (p : Member × ℕ). insert_entry member_cmp entries p.0 p.1) old (filter_map (cell_pair key_of all) (b ∷ left)) ≡ cells
    → fold (λ entries (p : Member × ℕ). insert_entry member_cmp entries p.0 p.1) new (filter_map (cell_pair key_of all) left) ≡ cells
told-insert key_of all b left old new cells cell found is h =
    let put : List (Member × ℕ) → Member × ℕ → List (Member × ℕ) = λ entries p. insert_entry member_cmp entries p.0 p.1 in
    ap (λ es. fold put es (filter_map (cell_pair key_of all) left)) is
    ∙ sym (ap (λ o. fold put old (cons_option (option_map (λ (c : ℕ). (b, c)) o) (filter_map (cell_pair key_of all) left))) found) ∙ h

-- the cell of one more member
own-insert : (members rest : List Member) (old new : List (Member × ℕ)) (b : Member) (cell : ℕ)
    → ((q : Member) → lookup (same_member q) new ≡ cond (same_member b q) (Some cell) (lookup (same_member q) old))
    → ((q : Member) → list_any (same_member q) (b ∷ rest) ≡ true → list_any (same_member q) members ≡ true)
    → HasOwnCells members old → HasOwnCells members new
own-insert members rest old new b cell u left own q s =
    elim (same_member b q) as (λ t. same_member b q ≡ t → IsSome (cond t (Some cell) (lookup (same_member q) old))
    → list_any (same_member q) members ≡ true) [
      | true ↦ λ e _. let same : same_member q b ≡ true = same_equiv.symm q b ∙ e in left q (rw same refl)
      | false ↦ λ _ o. own q o
    ] refl (subst (λ o. IsSome o) (u q) s)

-- the members that are left are some of those before
rest-left : (members rest : List Member) (b : Member)
    → ((q : Member) → list_any (same_member q) (b ∷ rest) ≡ true → list_any (same_member q) members ≡ true)
    → (q : Member) → list_any (same_member q) rest ≡ true → list_any (same_member q) members ≡ true
rest-left members rest b left q l =
    left q (elim (same_member q b) as (λ t. (t || list_any (same_member q) rest) ≡ true) [ true ↦ refl | false ↦ l ])

pub loop-backend-preserved : goal.loop-backend-preserved
loop-backend-preserved g c =
    let b = c.in-Some.backend.now in
    let members = c.args.members.now.keys in
    let left = c.next.new.self in
    let step : c.loop-backend.backend-iterator ≡ b ∷ left = search rules in
    let among : (q : Member) → list_any (same_member q) (b ∷ left) ≡ true → list_any (same_member q) members ≡ true
    = λ q l. c.loop-backend.invariant.rest q (rw step l) in
    record {
      told = λ key_of all rule numbered. elim c.match-copied.branch [
        | in-Some-copied+in_ok-clone+in_ok-insert w ↦
            let k = c.in_ok-key.key in
            let cell = w.in-Some-copied.cell in
            let key : k ≡ key_of b = rule b k c.in_ok-key.ensures.ok in
            let stored : lookup (same_member k) c.args.numbering.now.by_key.entries ≡ Some cell = search rules in
            let entries : w.insert.new.self.entries ≡ insert_entry member_cmp c.loop-backend.cells.entries b cell = search rules in
            rw w.cells-is (told-insert key_of all b left c.loop-backend.cells.entries _ _ cell (sym (ap (cell_now same_member all) key)
            ∙ sym (numbered.cells k) ∙ stored) entries
            (rw step at (c.loop-backend.invariant.told key_of all rule numbered)))
        | in_default w ↦ search rules
      ];
      own = elim c.match-copied.branch [
        | in-Some-copied+in_ok-clone+in_ok-insert w ↦
            rw w.cells-is (own-insert members left c.loop-backend.cells.entries w.insert.new.self.entries b _
            (rw w.in_ok-clone.ensures.cases at w.in_ok-insert.ensures.updates).0 among c.loop-backend.invariant.own)
        | in_default w ↦ rw w.cells-is c.loop-backend.invariant.own
      ];
      rest = rest-left members left b among;
    }
