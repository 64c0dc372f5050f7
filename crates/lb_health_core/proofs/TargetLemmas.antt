-- The targets, gathered from the backends of the views one by one.
use Rattle.std.proofs.Common.{◌≡◌, ℕ, Bool, true, false, cond, not, ◌||◌, List, [], ◌∷◌, ◌++◌, refl, sym, ap, ◌∙◌, append_assoc, rules}
use Rattle.std.proofs.Math.Bool.{or-false}
use Rattle.std.proofs.lemmas.Grind.{flat_map-append}
use Rattle.std.proofs.lemmas.List.{append-nil}
use Rattle.std.proofs.lemmas.List.Elements.{filter-append}
use Rattle.std.proofs.lemmas.List.Folds.{list_any-append}
use Rattle.std.proofs.lemmas.List.Sums.{fold-append}
use Rattle.std.proofs.lemmas.Map.Steps.{list_any_congr}
use Rattle.std.specs.BTreeMap.{insert_entry}
use Rattle.std.specs.BTreeSet.{contains}
use Rattle.std.specs.Cmp.{IsEquivalence, IsTotalOrder, eq_by_cmp_equiv}
use Rattle.std.specs.Cmp.Rules.{comparing}
use Rattle.std.specs.List.{list_any, flat_map}
use Rattle.lb_select_base.specs.Backends.{Member, member_cmp, same_member}
use Rattle.lb_select_base.specs.Unique.{distinct}
use Rattle.lb_select_base.proofs.SelectionLaws.{distinct-append}
use Rattle.lb_health_core.specs.declared.targets.Gathered.{Gathered}
use Rattle.lb_health_core.specs.Internal.Gathering.{Gathers, IsGathering}
use Rattle.lb_health_core.specs.Targets.{ViewValue, live, place_cmp, Candidate, same_key, candidates_of, candidates, in_order}

-- backends are in a total order, and identity is an equivalence
pub member_total : IsTotalOrder member_cmp
member_total = search (comparing, rules) depth 9

pub member_laws : IsEquivalence same_member
member_laws = eq_by_cmp_equiv member_total

-- a candidate whose key has its target already
distinct-known : (cs : List Candidate) (c : Candidate) → list_any (same_key c) cs ≡ true
    → distinct same_key (cs ++ c ∷ []) ≡ distinct same_key cs
distinct-known cs c e =
    distinct-append same_key cs (c ∷ [])
    ∙ ap (λ b. distinct same_key cs ++ cond b [] (c ∷ [])) e
    ∙ append-nil (distinct same_key cs)

-- the first candidate of its key
distinct-new : (cs : List Candidate) (c : Candidate) → list_any (same_key c) cs ≡ false
    → distinct same_key (cs ++ c ∷ []) ≡ distinct same_key cs ++ c ∷ []
distinct-new cs c e = distinct-append same_key cs (c ∷ []) ∙ ap (λ b. distinct same_key cs ++ cond b [] (c ∷ [])) e

-- whether a key has its target, after one more candidate
taken-push :
    (cs : List Candidate) (c : Candidate) (q : Member)
    → list_any (λ d. same_member q d.key) (cs ++ c ∷ []) ≡ (list_any (λ d. same_member q d.key) cs || same_member q c.key)
taken-push cs c q =
    list_any-append (λ d. same_member q d.key) cs (c ∷ [])
    ∙ ap (λ b. list_any (λ d. same_member q d.key) cs || b) (or-false (same_member q c.key))

known_by : (b t : Bool) → (t ≡ true → b ≡ true) → b ≡ (b || t)
known_by true t h = refl
known_by false false h = refl
known_by false true h = h refl

pub gathers-known :
    (cs : List Candidate) (g : Gathered) (c : Candidate) → Gathers cs g → contains member_cmp g.taken c.key ≡ true
    → Gathers (cs ++ c ∷ []) g
gathers-known cs g c before known =
    record {
      taken = λ q.
          before.taken q
          ∙ known_by (list_any (λ d. same_member q d.key) cs) (same_member q c.key)
          (λ t. sym (before.taken q) ∙ list_any_congr member_laws q c.key g.taken.keys t ∙ known)
          ∙ sym (taken-push cs c q);
      order = before.order ∙ ap in_order (sym (distinct-known cs c (sym (before.taken c.key) ∙ known)));
    }

new_by : (t b : Bool) → cond t true b ≡ (b || t)
new_by true true = refl
new_by true false = refl
new_by false true = refl
new_by false false = refl

pub gathers-first :
    (cs : List Candidate) (g h : Gathered) (c : Candidate) → Gathers cs g → contains member_cmp g.taken c.key ≡ false
    → ((q : Member) → contains member_cmp h.taken q ≡ cond (same_member c.key q) true (contains member_cmp g.taken q))
    → h.order.entries ≡ insert_entry place_cmp g.order.entries c.place c.key → Gathers (cs ++ c ∷ []) h
gathers-first cs g h c before new taken order =
    record {
      taken = λ q.
          taken q ∙ ap (λ t. cond t true (contains member_cmp g.taken q)) (member_laws.symm c.key q)
          ∙ new_by (same_member q c.key) (contains member_cmp g.taken q)
          ∙ ap (λ b. b || same_member q c.key) (before.taken q) ∙ sym (taken-push cs c q);
      order =
          order ∙ ap (λ es. insert_entry place_cmp es c.place c.key) before.order
          ∙ sym (fold-append (λ sorted d. insert_entry place_cmp sorted d.place d.key) [] (distinct same_key cs) (c ∷ []))
          ∙ ap in_order (sym (distinct-new cs c (sym (before.taken c.key) ∙ new)));
    }

-- one more member of a view, whose key has its target
pub gathering-known :
    (key_of : Member → Member) (id : ℕ) (rest more : List Member) (whole : List Candidate) (g : Gathered) (b k : Member)
    → IsGathering key_of id rest whole g → rest ≡ b ∷ more → k ≡ key_of b → contains member_cmp g.taken k ≡ true
    → IsGathering key_of id more whole g
gathering-known key_of id rest more whole g b k so is key known =
    let c : Candidate = record { place = record { backend = b; view = id }; key = key_of b } in
    record {
      passed = so.passed ++ c ∷ [];
      gathers = gathers-known so.passed g c so.gathers (ap (contains member_cmp g.taken) (sym key) ∙ known);
      left = append_assoc so.passed (c ∷ []) (candidates_of key_of id more) ∙ ap (λ ms. so.passed ++ candidates_of key_of id ms) (sym is)
          ∙ so.left;
    }

-- one more member, which is the target of its key
pub gathering-first :
    (key_of : Member → Member) (id : ℕ) (rest more : List Member) (whole : List Candidate) (g h : Gathered) (b c k l : Member)
    → IsGathering key_of id rest whole g → rest ≡ b ∷ more → k ≡ key_of b → contains member_cmp g.taken k ≡ false → c ≡ b → l ≡ k
    → ((q : Member) → contains member_cmp h.taken q ≡ cond (same_member l q) true (contains member_cmp g.taken q))
    → h.order.entries ≡ insert_entry place_cmp g.order.entries (record { backend = c; view = id }) k
    → IsGathering key_of id more whole h
gathering-first key_of id rest more whole g h b c k l so is key new copy twin taken order =
    let d : Candidate = record { place = record { backend = b; view = id }; key = key_of b } in
    record {
      passed = so.passed ++ d ∷ [];
      gathers =
          gathers-first so.passed g h d so.gathers (ap (contains member_cmp g.taken) (sym key) ∙ new)
          (λ q. taken q ∙ ap (λ m. cond (same_member m q) true (contains member_cmp g.taken q)) (twin ∙ key))
          (order ∙ ap (λ m. insert_entry place_cmp g.order.entries (record { backend = m; view = id }) k) copy
          ∙ ap (λ m. insert_entry place_cmp g.order.entries (record { backend = b; view = id }) m) key);
      left = append_assoc so.passed (d ∷ []) (candidates_of key_of id more) ∙ ap (λ ms. so.passed ++ candidates_of key_of id ms) (sym is)
          ∙ so.left;
    }

-- one more view: by its mark
pub candidates-push :
    (key_of : Member → Member) (views : List ViewValue) (v : ViewValue)
    → candidates key_of (live (views ++ v ∷ [])) ≡ cond v.marked (candidates key_of (live views))
    (candidates key_of (live views) ++ candidates_of key_of v.id v.members)
candidates-push key_of views v =
    ap (candidates key_of) (filter-append (λ (w : ViewValue). not w.marked) views (v ∷ []))
    ∙ flat_map-append (λ (w : ViewValue). candidates_of key_of w.id w.members) (live views) (live (v ∷ []))
    ∙ pushed (candidates key_of (live views)) (candidates_of key_of v.id v.members) v.marked v
  where
    pushed :
        (before own : List Candidate) (m : Bool) (w : ViewValue)
        → before ++ flat_map (λ (w : ViewValue). candidates_of key_of w.id w.members) (cond (not m) (v ∷ []) []) ≡ cond m before
        (before ++ candidates_of key_of v.id v.members)
    pushed before own true w = append-nil before
    pushed before own false w = ap (λ ys. before ++ ys) (append-nil (candidates_of key_of v.id v.members))
