-- How the events of a view change what its value shows.
use Rattle.std.proofs.Common.{◌≡◌, ℕ, ◌+◌, Bool, true, false, cond, List, [], ◌∷◌, map, filter, refl, sym, ◌∙◌, ap, Some, None, Option, inl}
use Rattle.std.proofs.Common.{inr}
use Rattle.std.specs.Prelude.{IsSome, OnErr, Result, Ok, Err, ◌&&◌, ◌||◌, ◌⊎◌, if◌then◌else◌, ◌==◌}
use Rattle.std.specs.HashMap.Eq.{lookup_congr}
use Rattle.std.specs.List.{list_any}
use Rattle.std.specs.Option.{unwrap_or, is_some}
use Rattle.std.proofs.lemmas.Bool.{false≢true, eq-eqb}
use Rattle.std.proofs.lemmas.List.Folds.{list_any-append}
use Rattle.std.proofs.lemmas.Map.Entries.{lookup-filter-keys}
use Rattle.std.proofs.lemmas.Map.Steps.{list_any_congr}
use Rattle.lb_select_base.specs.Backends.{Member, same_member}
use Rattle.lb_select_base.proofs.Turns.{same_equiv}
use Rattle.lb_health_view.specs.Snapshots.{SnapshotValue, ViewValue, snapshot_of, held_more, held_less, at_generation, living, lists_in}
use Rattle.lb_health_view.specs.Snapshots.{flags_listed, value_at}
use Rattle.lb_health_view.specs.ViewEvents.{ViewEvent, Shown, Held, Released, Set, generation_after, membership_after, by_age, new_snapshot}
use Rattle.lb_health_view.specs.ViewEvents.{listed, flag_after, snapshots_after}
use Rattle.lb_health_view.specs.Views.{IsViewAfter, Flags}
use Rattle.lb_health_view.specs.declared.snapshot.ViewSnapshot.{ViewSnapshot}

-- a filter of snapshots by what contracts see of them
pub filter-seen : (p : SnapshotValue → Bool) (ss : List ViewSnapshot) → map snapshot_of (filter (λ s. p (snapshot_of s)) ss) ≡ filter p
    (map snapshot_of ss)
filter-seen p [] = refl
filter-seen p (s ∷ ss) =
    elim (p (snapshot_of s)) as (λ b. map snapshot_of (cond b (s ∷ filter (λ x. p (snapshot_of x)) ss) (filter (λ x. p (snapshot_of x)) ss))
    ≡ cond b (snapshot_of s ∷ filter p (map snapshot_of ss)) (filter p (map snapshot_of ss)))
    [ true ↦ ap (λ rest. snapshot_of s ∷ rest) (filter-seen p ss) | false ↦ filter-seen p ss ]

-- what a filter leaves lists no more
pub lists-filter : (b : Member) (p : SnapshotValue → Bool) (ss : List SnapshotValue) → lists_in b (filter p ss) ≡ true
    → lists_in b ss ≡ true
lists-filter b p [] h = h
lists-filter b p (s ∷ ss) h =
    elim (p s) as (λ t. lists_in b (cond t (s ∷ filter p ss) (filter p ss)) ≡ true
    → (list_any (same_member b) s.members || lists_in b ss) ≡ true) [
      | true ↦ λ e. elim (list_any (same_member b) s.members) as (λ u. (u || lists_in b (filter p ss)) ≡ true → (u || lists_in b ss) ≡ true)
          [ true ↦ λ _. refl | false ↦ λ r. lists-filter b p ss r ] e
      | false ↦ λ e. elim (list_any (same_member b) s.members) as (λ u. (u || lists_in b ss) ≡ true) [
        | true ↦ refl
        | false ↦ lists-filter b p ss e
      ]
    ] h

-- a count of holds changes no list of members
pub lists-at_generation : (b : Member) (g : ℕ) (f : SnapshotValue → SnapshotValue) → ((s : SnapshotValue) → (f s).members ≡ s.members)
    → (ss : List SnapshotValue) → lists_in b (at_generation g f ss) ≡ lists_in b ss
lists-at_generation b g f same [] = refl
lists-at_generation b g f same (s ∷ ss) =
    elim (s.generation == g) as (λ t. lists_in b (if t then f s ∷ ss else s ∷ at_generation g f ss) ≡
    (list_any (same_member b) s.members || lists_in b ss)) [
      | true ↦ ap (λ ms. list_any (same_member b) ms || lists_in b ss) (same s)
      | false ↦ ap (λ r. list_any (same_member b) s.members || r) (lists-at_generation b g f same ss)
    ]

-- the same snapshots in another order
pub lists-by_age : (b : Member) (ss : List SnapshotValue) → lists_in b (by_age ss) ≡ lists_in b ss
lists-by_age b [] = refl
lists-by_age b (s ∷ ss) = list_any-append _ ss (s ∷ [])
    ∙ elim (list_any (same_member b) s.members) as (λ t. (lists_in b ss || (t || false)) ≡ (t || lists_in b ss)) [
      | true ↦ elim (lists_in b ss) as (λ u. (u || (true || false)) ≡ true) [ true ↦ refl | false ↦ refl ]
      | false ↦ elim (lists_in b ss) as (λ u. (u || (false || false)) ≡ u) [ true ↦ refl | false ↦ refl ]
    ]

-- one identity is listed or not
pub lists-same : (b c : Member) → same_member b c ≡ true → (ss : List SnapshotValue) → lists_in b ss ≡ lists_in c ss
lists-same b c e [] = refl
lists-same b c e (s ∷ ss) = ap (λ t. t || lists_in b ss) (list_any_congr same_equiv b c s.members e)
    ∙ ap (λ t. list_any (same_member c) s.members || t) (lists-same b c e ss)

-- the flags of what is listed
pub flag-listed : (ss : List SnapshotValue) (flags : List (Member × Bool)) (b : Member)
    → value_at (flags_listed ss flags) b ≡ cond (lists_in b ss) (value_at flags b) None
flag-listed ss flags b = lookup-filter-keys (same_member b) (λ k. lists_in k ss) (lists_in b ss) (λ k e. sym (lists-same b k e ss)) flags

-- a flag that is stored after a filter was stored before, and is of a backend that is listed
pub flag-kept : (ss : List SnapshotValue) (flags : List (Member × Bool)) (b : Member) (on : Bool)
    → value_at (flags_listed ss flags) b ≡ Some on
    → (lists_in b ss ≡ true) × (value_at flags b ≡ Some on)
flag-kept ss flags b on e =
    elim (lists_in b ss) as (λ t. cond t (value_at flags b) None ≡ Some on → (t ≡ true) × (value_at flags b ≡ Some on))
    [ true ↦ λ o. (refl, o) | false ↦ λ o. absurd (false≢true (ap is_some o)) ] (sym (flag-listed ss flags b) ∙ e)

-- a backend that nothing lists is enabled
pub unlisted-enabled : (views : List ViewEvent) (b : Member) → listed views b ≡ false → flag_after views b ≡ true
unlisted-enabled [] b u = refl
unlisted-enabled (Set c on ∷ earlier) b u =
    elim (same_member c b) as (λ t. same_member c b ≡ t → (if t && listed earlier c then on else flag_after earlier b) ≡ true) [
      | true ↦ λ e. rw (lists-same c b e (snapshots_after earlier) ∙ u) (unlisted-enabled earlier b u)
      | false ↦ λ e. unlisted-enabled earlier b u
    ] refl
unlisted-enabled (Shown members cells ∷ earlier) b u = rw u refl
unlisted-enabled (Released g ∷ earlier) b u = rw u refl
unlisted-enabled (Held g ∷ earlier) b u =
    unlisted-enabled earlier b (sym (lists-at_generation b g held_more (λ s. refl) (snapshots_after earlier)) ∙ u)

-- flags that enable may be stored with those that are needed
pub roomier : (views : List ViewEvent) (v w : ViewValue) → IsViewAfter views v → w.generation ≡ v.generation → w.snapshots ≡ v.snapshots
    → ((q : Member) → Flags v.flags w.flags q) → IsViewAfter views w
roomier views v w h g s flags = record {
  generation = g ∙ h.generation;
  snapshots = s ∙ h.snapshots;
  needed = λ b l. elim (flags b) [ inl e ↦ rw e (h.needed b l) | inr n ↦ ap is_some n.1 ];
  stored = λ b on o. elim (flags b) [
    | inl e ↦ h.stored b on (sym e ∙ o)
    | inr n ↦ elim (listed views b) as (λ t. listed views b ≡ t → on ≡ flag_after views b) [
      | true ↦ λ l. absurd (false≢true (sym (ap is_some n.0) ∙ h.needed b l))
      | false ↦ λ u. ap (λ r. unwrap_or r on) (sym o ∙ n.1) ∙ sym (unlisted-enabled views b u)
    ] refl
  ];
}

-- a hold
pub held : (views : List ViewEvent) (v w : ViewValue) (g : ℕ) → IsViewAfter views v → w.generation ≡ v.generation
    → w.snapshots ≡ at_generation g held_more v.snapshots → w.flags ≡ v.flags → IsViewAfter (Held g ∷ views) w
held views v w g h n s f = record {
  generation = n ∙ h.generation;
  snapshots = s ∙ ap (λ ss. at_generation g held_more ss) h.snapshots;
  needed = λ b l. rw f (h.needed b (sym (lists-at_generation b g held_more (λ s. refl) (snapshots_after views)) ∙ l));
  stored = λ b on o. h.stored b on (rw f at o);
}

-- the end of a hold, and of the flags that nothing lists any more
pub released : (views : List ViewEvent) (v w : ViewValue) (g : ℕ) → IsViewAfter views v → w.generation ≡ v.generation
    → w.snapshots ≡ living v.generation (at_generation g held_less v.snapshots) → w.flags ≡ flags_listed w.snapshots v.flags
    → IsViewAfter (Released g ∷ views) w
released views v w g h n s f =
    let after : w.snapshots ≡ snapshots_after (Released g ∷ views) = s
    ∙ ap (λ m. living m (at_generation g held_less v.snapshots)) h.generation
    ∙ ap (λ ss. living (generation_after views) (at_generation g held_less ss)) h.snapshots in
    let flags : w.flags ≡ flags_listed (snapshots_after (Released g ∷ views)) v.flags = f ∙ ap (λ ss. flags_listed ss v.flags) after in
    record {
      generation = n ∙ h.generation;
      snapshots = after;
      needed = λ b l. rw (flags, flag-listed (snapshots_after (Released g ∷ views)) v.flags b, l)
          (h.needed b (sym (lists-at_generation b g held_less (λ s. refl) (snapshots_after views))
          ∙ lists-filter b _ (at_generation g held_less (snapshots_after views)) l));
      stored = λ b on o. let kept = flag-kept (snapshots_after (Released g ∷ views)) v.flags b on (rw flags at o)
          in rw kept.0 (h.stored b on kept.1);
    }

-- a new membership, whose backends all have a flag
pub shown : (views : List ViewEvent) (v w : ViewValue) (ms : List Member) (cells : List (Member × ℕ)) → IsViewAfter views v
    → ((b : Member) → list_any (same_member b) ms ≡ true → IsSome (value_at v.flags b))
    → w.generation ≡ v.generation + 1
    → w.snapshots ≡ new_snapshot (v.generation + 1) ms cells ∷ living (v.generation + 1) (by_age v.snapshots)
    → w.flags ≡ flags_listed w.snapshots v.flags
    → IsViewAfter (Shown ms cells ∷ views) w
shown views v w ms cells h all n s f =
    let after : w.snapshots ≡ snapshots_after (Shown ms cells ∷ views) = s
    ∙ ap (λ m. new_snapshot (m + 1) ms cells ∷ living (m + 1) (by_age v.snapshots)) h.generation
    ∙ ap (λ ss. new_snapshot (generation_after views + 1) ms cells ∷ living (generation_after views + 1) (by_age ss)) h.snapshots in
    let flags : w.flags ≡ flags_listed (snapshots_after (Shown ms cells ∷ views)) v.flags = f ∙ ap (λ ss. flags_listed ss v.flags) after in
    record {
      generation = n ∙ ap (λ m. m + 1) h.generation;
      snapshots = after;
      needed = λ b l. rw (flags, flag-listed (snapshots_after (Shown ms cells ∷ views)) v.flags b, l)
          (elim (list_any (same_member b) ms) as (λ t. list_any (same_member b) ms ≡ t
          → (t || lists_in b (living (generation_after views + 1) (by_age (snapshots_after views)))) ≡ true → IsSome (value_at v.flags b)) [
            | true ↦ λ e _. all b e
            | false ↦ λ _ r. h.needed b (sym (lists-by_age b (snapshots_after views)) ∙ lists-filter b _ (by_age (snapshots_after views)) r)
          ] refl l);
      stored = λ b on o. let kept = flag-kept (snapshots_after (Shown ms cells ∷ views)) v.flags b on (rw flags at o)
          in rw kept.0 (h.stored b on kept.1);
    }

-- the current snapshot comes first: its members and its generation
abbrev pub first_members : List SnapshotValue → List Member
first_members [] = []
first_members (s ∷ ss) = s.members

abbrev pub first_generation : List SnapshotValue → ℕ
first_generation [] = 0
first_generation (s ∷ ss) = s.generation

first-at_generation : (g : ℕ) (f : SnapshotValue → SnapshotValue)
    → ((s : SnapshotValue) → ((f s).members ≡ s.members) × ((f s).generation ≡ s.generation))
    → (ss : List SnapshotValue) → (first_members (at_generation g f ss) ≡ first_members ss)
    × (first_generation (at_generation g f ss) ≡ first_generation ss)
first-at_generation g f same [] = (refl, refl)
first-at_generation g f same (s ∷ ss) =
    elim (s.generation == g) as (λ t. (first_members (if t then f s ∷ ss else s ∷ at_generation g f ss) ≡ s.members)
    × (first_generation (if t then f s ∷ ss else s ∷ at_generation g f ss) ≡ s.generation))
    [ true ↦ same s | false ↦ (refl, refl) ]

first-living : (n : ℕ) (ss : List SnapshotValue) → first_generation ss ≡ n → (first_members (living n ss) ≡ first_members ss)
    × (first_generation (living n ss) ≡ first_generation ss)
first-living n [] e = (refl, refl)
first-living n (s ∷ ss) e = rw (eq-eqb s.generation n e) (refl, refl)

pub current_first : (views : List ViewEvent) → (first_members (snapshots_after views) ≡ membership_after views)
    × (first_generation (snapshots_after views) ≡ generation_after views)
current_first [] = (refl, refl)
current_first (Shown members cells ∷ earlier) = (refl, refl)
current_first (Set b on ∷ earlier) = current_first earlier
current_first (Held g ∷ earlier) =
    let now = current_first earlier in
    let same = first-at_generation g held_more (λ s. (refl, refl)) (snapshots_after earlier) in (same.0 ∙ now.0, same.1 ∙ now.1)
current_first (Released g ∷ earlier) =
    let now = current_first earlier in
    let same = first-at_generation g held_less (λ s. (refl, refl)) (snapshots_after earlier) in
    let lives = first-living (generation_after earlier) (at_generation g held_less (snapshots_after earlier)) (same.1 ∙ now.1) in
    (lives.0 ∙ same.0 ∙ now.0, lives.1 ∙ same.1 ∙ now.1)

-- the members of the current snapshot are the newest membership
pub members_are : (views : List ViewEvent) (v : ViewValue) → IsViewAfter views v → first_members v.snapshots ≡ membership_after views
members_are views v h = ap first_members h.snapshots ∙ (current_first views).0

-- a flag more, that enables
pub flags-insert : (old cur new : List (Member × Bool)) (b : Member) → value_at cur b ≡ None
    → ((q : Member) → value_at new q ≡ cond (same_member b q) (Some true) (value_at cur q))
    → ((q : Member) → Flags old cur q) → (q : Member) → Flags old new q
flags-insert old cur new b none u before q =
    elim (same_member b q) as (λ t. same_member b q ≡ t → Flags old new q) [
      | true ↦ λ e.
          let nothing : value_at cur q ≡ None = sym (lookup_congr same_member (same_equiv.congr) cur b q e) ∙ none in
          let now : value_at new q ≡ Some true = u q ∙ rw e refl in
          elim (before q) [ inl k ↦ inr (sym k ∙ nothing, now) | inr n ↦ inr (n.0, now) ]
      | false ↦ λ e.
          let now : value_at new q ≡ value_at cur q = u q ∙ rw e refl in
          elim (before q) [ inl k ↦ inl (now ∙ k) | inr n ↦ inr (n.0, now ∙ n.1) ]
    ] refl

-- and then the backend has one
pub all-insert : (cur new : List (Member × Bool)) (b : Member) (rest : List Member)
    → ((q : Member) → value_at new q ≡ cond (same_member b q) (Some true) (value_at cur q)) → (q : Member)
    → IsSome (value_at cur q) ⊎ (list_any (same_member q) (b ∷ rest) ≡ true)
    → IsSome (value_at new q) ⊎ (list_any (same_member q) rest ≡ true)
all-insert cur new b rest u q before =
    elim (same_member b q) as (λ t. same_member b q ≡ t → IsSome (value_at new q) ⊎ (list_any (same_member q) rest ≡ true)) [
      | true ↦ λ e. let now : value_at new q ≡ Some true = u q ∙ rw e refl in inl (ap is_some now)
      | false ↦ λ e. let now : value_at new q ≡ value_at cur q = u q ∙ rw e refl in elim before [
        | inl k ↦ inl (ap is_some now ∙ k)
        | inr l ↦ let other : same_member q b ≡ false = same_equiv.symm q b ∙ e in inr (rw other at l)
      ]
    ] refl

-- a backend that had one already
pub all-there : (cur : List (Member × Bool)) (b : Member) (rest : List Member) → IsSome (value_at cur b) → (q : Member)
    → IsSome (value_at cur q) ⊎ (list_any (same_member q) (b ∷ rest) ≡ true)
    → IsSome (value_at cur q) ⊎ (list_any (same_member q) rest ≡ true)
all-there cur b rest there q before =
    elim before [
      | inl k ↦ inl k
      | inr l ↦ elim (same_member q b) as (λ t. same_member q b ≡ t → (t || list_any (same_member q) rest) ≡ true → IsSome (value_at cur q)
          ⊎ (list_any (same_member q) rest ≡ true)) [
            | true ↦ λ e _. inl (ap is_some (lookup_congr same_member (same_equiv.congr) cur q b e) ∙ there)
            | false ↦ λ _ r. inr r
          ] refl l
    ]

-- an option without a value
pub none_of : {A : Type 0} (o : Option A) → is_some o ≡ false → o ≡ None
none_of None e = refl
none_of (Some x) e = absurd (false≢true (sym e))

-- what holds of any result holds of an error
pub on_err : {T E P : Type 0} (r : Result T E) → P → OnErr r P
on_err (Ok x) p = tt
on_err (Err e) p = p
