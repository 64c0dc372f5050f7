-- The names that the proofs of this crate share, passed on from one place; and lemmas on the elements of a list after one of them
-- was written, and after one was added at the end.
pub use Rattle.lb_rebuild_core.proofs.Pasts.{members-past, newest-past, past-other, past-same}
pub use Rattle.lb_rebuild_core.specs.SlotsHistory.{flight_after}
pub use Rattle.lb_rebuild_core.specs.SlotsCalls.{at_slot}
pub use Rattle.lb_rebuild_core.specs.SlotsHistory.{At, granted, granted_members, members_of, newest, past_of, served}
pub use Rattle.lb_rebuild_core.specs.SlotCalls.{ask_told}
pub use Rattle.lb_rebuild_core.specs.Values.{Task, configs_of}
pub use Rattle.lb_health_view.specs.RegistrySide.{settings_of}
pub use Rattle.lb_world.proofs.Accepted.{right_answer}
pub use Rattle.lb_world.proofs.Counting.{there-at}
pub use Rattle.lb_world.proofs.Extras.{get-kept}
pub use Rattle.lb_world.proofs.Promised.{members-kept}
pub use Rattle.lb_world.proofs.Refusing.{ap2, refused-alike}
pub use Rattle.lb_world.proofs.Runs.{slots-fit}
pub use Rattle.lb_world.proofs.Sharing.{shares}
pub use Rattle.lb_world.proofs.Steps.{others-stay}
pub use Rattle.lb_world.proofs.Own.{group_after_step, group-of, happened, joined-after, own-step}
pub use Rattle.lb_world.proofs.Together.{get-pushed}
pub use Rattle.lb_world.specs.Answers.{Answers, IsRun, Judges, at_one, has_refused, no_number, no_such, refuse}
pub use Rattle.lb_world.specs.Answers.{unless_refused, where_, without_memory}
pub use Rattle.lb_world.specs.History.{History, Made, RegistryMade, Work, after, config, config_in, entries, gates, group_at}
pub use Rattle.lb_world.specs.History.{slot_events, is_at, is_out, load_of, made, made_at, members_in, past, registries}
pub use Rattle.lb_world.specs.History.{marked, registry_of, settings_in, work, worked, works_at}
pub use Rattle.lb_world.specs.GroupEvents.{group_events, view_events}
pub use Rattle.lb_world.specs.Meanings.{Meaning, meaning_of}
pub use Rattle.lb_world.specs.Refused.{unrefused}
pub use Rattle.lb_world.specs.Shared.{changed, events_in, key_at, key_by, key_in, key_of, registry_at, registry_events}
pub use Rattle.lb_world.specs.Shared.{view_in}
pub use Rattle.lb_world.specs.Steps.{Step}
pub use Rattle.lb_world.specs.declared.answer.Answer.{Answer}
pub use Rattle.lb_world.specs.declared.step.Listing.{Listing}
pub use Rattle.lb_rebuild_core.specs.GroupStates.{GroupValue, views_of}
pub use Rattle.lb_rebuild_core.specs.Gate.{GateId, GateValue, gate}
pub use Rattle.lb_rebuild_core.specs.Gate.{GroupId}
pub use Rattle.lb_health_core.proofs.FreshLemmas.{marks_start_none}
pub use Rattle.lb_health_core.proofs.StateLemmas.{set_found}
pub use Rattle.lb_health_core.specs.Keys.{by_address, by_identity}
pub use Rattle.lb_health_core.specs.Registry.{IsRegistryAfter, RegistryValue}
pub use Rattle.lb_health_core.specs.RegistryEvents.{Applied, Event, cells_given, views_after}
pub use Rattle.lb_health_core.specs.Targets.{live}
pub use Rattle.lb_select_base.specs.AddressText.{bare_member}
pub use Rattle.lb_select_base.specs.Backends.{Member, member_cmp, same_member}
pub use Rattle.lb_select_base.specs.Loads.{load_in}
pub use Rattle.lb_select_base.specs.Memberships.{same_members, set_of}
pub use Rattle.lb_select_base.specs.Refusals.{earlier, least}
pub use Rattle.lb_select_base.specs.declared.refusal.Refusal.{Refusal}
pub use Rattle.lb_world.specs.Internal.Calls.{in_tables, set_marked, with_core, with_key}
pub use Rattle.lb_world.specs.Internal.Cells.{lists_key, new_keys, starts_cell}
pub use Rattle.lb_world.specs.Internal.Calls.{some_and}
pub use Rattle.lb_world.specs.Rules.{WorldRule, key_gives}
pub use Rattle.lb_world.specs.Stands.{Before, EntryIs, EntryNext, Stands, made_of, permit_after}
pub use Rattle.lb_world.specs.Views.{EntryValue, OpenReaderValue, IsOwnReader, Origin, WorkValue, WorldValue, entered_of, origin, site}
pub use Rattle.lb_world.specs.Works.{held_of}
pub use Rattle.std.proofs.Common.{Bool, Equal, Greater, IsTrue, Less, List, Ordering, [], ap, arith, cond, drop, false, inl, inr, length}
pub use Rattle.std.proofs.Common.{map, nat_le, nat_lt, not, refl, slice_get, subst, sym, take, true, true≢false, ℕ, ◌&&◌, ◌++◌, ◌+◌, ◌<◌}
pub use Rattle.std.proofs.Common.{◌==◌, ◌^◌, ◌||◌, ◌↔◌, ◌∙◌, ◌∷◌, ◌≡◌, ◌≤◌, ◌⊎◌}
pub use Rattle.std.proofs.lemmas.Bool.{and_parts, cases_eq, eq-eqb, false≢true, le-leb, lt-ltb, ltb-true, ne_eqb}
pub use Rattle.std.proofs.lemmas.Bool.Decides.{leb_tells}
pub use Rattle.std.proofs.lemmas.Iterator.Adapters.{YieldsList-from_vec}
pub use Rattle.std.proofs.lemmas.Iterator.Consumers.{YieldsList-end}
pub use Rattle.std.proofs.lemmas.List.{at_drop_more, length-map, length-set, length_push, map-append, map-id}
pub use Rattle.std.proofs.lemmas.Option.{cond_some, none-some, same_Some, slice_get_past, slice_get_within}
pub use Rattle.std.specs.BTreeMap.{insert_entry}
pub use Rattle.std.specs.BTreeSet.{insert_key}
pub use Rattle.std.specs.Cmp.{IsEquivalence}
pub use Rattle.std.specs.List.{cons_option, list_all, list_any}
pub use Rattle.std.specs.Option.{option_map}
pub use Rattle.std.specs.Ordering.{match_ordering, nat_cmp, ordering_then}
pub use Rattle.std.specs.Prelude.{Err, MatchOption, None, Ok, Option, Result, Some, fold, slice_set}
use Rattle.std.proofs.Common.{get_or, replicate, suc, zero}
use Rattle.std.proofs.lemmas.List.{set-get_or}
use Rattle.std.proofs.lemmas.Option.{get_or_from_slice_get, slice_get-get_or, slice_get_cases}

module _ {X : Type 0} where
  -- elsewhere nothing changed
  pub get_other : (xs : List X) (i j : ℕ) (y : X) → (j ≡ i → ⊥) → slice_get (slice_set xs i y) j ≡ slice_get xs j
  get_other (a ∷ xs) zero zero y n = absurd (n refl)
  get_other (a ∷ xs) (suc i) (suc j) y n = get_other xs i j y (λ e. n (ap suc e))
  get_other xs i j y n = refl

  -- an element after a write is the one that was written, or an old one elsewhere
  pub get_set :
      (xs : List X) (i j : ℕ) (x y z : X) → slice_get xs i ≡ Some x → slice_get (slice_set xs i y) j ≡ Some z
      → ((j ≡ i) × (z ≡ y)) ⊎ ((j ≡ i → ⊥) × (slice_get xs j ≡ Some z))
  get_set xs i j x y z h r =
      elim (cases_eq j i) [
        | inl e ↦ inl (e, same_Some z y (sym r ∙ ap (slice_get (slice_set xs i y)) e ∙ set_found xs i x y h))
        | inr n ↦ inr (n, sym (get_other xs i j y n) ∙ r)
      ]

  -- what is written as it was
  pub set-same : (xs : List X) (i : ℕ) (x : X) → slice_get xs i ≡ Some x → slice_set xs i x ≡ xs
  set-same xs i x at = ap (slice_set xs i) (sym (get_or_from_slice_get xs i x x at)) ∙ set-get_or xs i x

  -- an element is there, or not, and it is exactly within the length
  pub there : (xs : List X) (i : ℕ) → ((slice_get xs i ≡ None) × (length xs ≤ i)) ⊎ ((x : X) × (slice_get xs i ≡ Some x))
  there xs i = elim (slice_get_cases xs i).1 [ inl p ↦ inr (p.0, p.2) | inr p ↦ inl (p.1, p.0) ]

  -- what holds of each element of a table, after one was written, or added
  pub each-set : {Q : ℕ → X → Type 0} (xs : List X) (i : ℕ) (x y : X) → slice_get xs i ≡ Some x → Q i y
      → ((j : ℕ) (z : X) → (j ≡ i → ⊥) → slice_get xs j ≡ Some z → Q j z)
      → (j : ℕ) (z : X) → slice_get (slice_set xs i y) j ≡ Some z → Q j z
  each-set {Q} xs i x y was new old j z at =
      elim (get_set xs i j x y z was at) [
        | inl p ↦ subst (λ k. Q k z) (sym p.0) (subst (Q i) (sym p.1) new)
        | inr p ↦ old j z p.0 p.1
      ]

  pub each-push : {Q : ℕ → X → Type 0} (xs : List X) (y : X) → Q (length xs) y
      → ((j : ℕ) (z : X) → j < length xs → slice_get xs j ≡ Some z → Q j z)
      → (j : ℕ) (z : X) → slice_get (xs ++ y ∷ []) j ≡ Some z → Q j z
  each-push {Q} xs y new old j z at =
      elim (get-pushed xs y z j at) [
        | inl p ↦ subst (λ k. Q k z) (sym p.0) (subst (Q (length xs)) (sym p.1) new)
        | inr p ↦ old j z p.0 p.1
      ]

-- one of a list of equal elements
pub get_replicate : {X : Type 0} (n : ℕ) (x : X) (i : ℕ) (y : X) → slice_get (replicate n x) i ≡ Some y → y ≡ x
get_replicate zero x i y h = absurd (none-some y h)
get_replicate (suc n) x zero y h = sym (same_Some x y h)
get_replicate (suc n) x (suc i) y h = get_replicate n x i y h

-- a place that is read
pub at-place : {X : Type 0} (xs : List X) (i : ℕ) (x : X) → i < length xs → x ≡ get_or xs i x → slice_get xs i ≡ Some x
at-place xs i x within is = slice_get-get_or xs i x within ∙ ap Some (sym is)
