-- Settings of flags.
use Rattle.std.proofs.Common.{◌≡◌, Bool, true, false, cond, List, ◌∷◌, refl, sym, ◌∙◌, ap, Option, Some, None, not, inl, inr}
use Rattle.std.specs.Prelude.{IsSome, ◌&&◌, ◌||◌, if◌then◌else◌}
use Rattle.std.specs.Option.{unwrap_or}
use Rattle.std.proofs.lemmas.Bool.{false≢true}
use Rattle.lb_select_base.specs.Backends.{Member, same_member}
use Rattle.lb_health_view.specs.Internal.ViewInvariants.{AreFlagsOf}
use Rattle.lb_health_view.specs.Snapshots.{ViewValue, lists_in, value_at}
use Rattle.lb_health_view.specs.ViewEvents.{ViewEvent, Set, listed, flag_after}
use Rattle.lb_health_view.specs.Views.{IsViewAfter, Flags}

-- what the snapshots that live list
pub lists_is : (events : List ViewEvent) (v : ViewValue) (b : Member) → IsViewAfter events v
    → lists_in b v.snapshots ≡ listed events b
lists_is events v b h = ap (λ ss. lists_in b ss) h.snapshots

-- a setting of a backend that nothing lists
pub set-unlisted : (events : List ViewEvent) (v : ViewValue) (b : Member) (on : Bool) → IsViewAfter events v → listed events b ≡ false
    → IsViewAfter (Set b on ∷ events) v
set-unlisted events v b on h u = record {
  generation = h.generation;
  snapshots = h.snapshots;
  needed = h.needed;
  stored = λ c x e. h.stored c x e
      ∙ rw u (elim (same_member b c) as (λ t. flag_after events c ≡ (if t && false then on else flag_after events c)) [
        | true ↦ refl
        | false ↦ refl
      ]);
}

-- a setting of a backend that a living snapshot lists
pub set-listed : (events : List ViewEvent) (v w : ViewValue) (b : Member) (on : Bool) → IsViewAfter events v → listed events b ≡ true
    → w.generation ≡ v.generation → w.snapshots ≡ v.snapshots
    → ((q : Member) → value_at w.flags q ≡ cond (same_member b q) (Some on) (value_at v.flags q))
    → IsViewAfter (Set b on ∷ events) w
set-listed events v w b on h l g s u = record {
  generation = g ∙ h.generation;
  snapshots = s ∙ h.snapshots;
  needed = λ c there. rw (u c) (elim (same_member b c) as (λ t. IsSome (cond t (Some on) (value_at v.flags c))) [
    | true ↦ refl
    | false ↦ h.needed c there
  ]);
  stored = λ c x e. rw l (elim (same_member b c) as (λ t. cond t (Some on) (value_at v.flags c) ≡ Some x
      → x ≡ (if t && true then on else flag_after events c))
      [ true ↦ λ o. sym (ap (λ r. unwrap_or r x) o) | false ↦ λ o. h.stored c x o ] (sym (u c) ∙ e));
}

-- a flag that is stored, where all that are stored enable
pub all-enabled : (o : Option Bool) (f : Bool) → IsSome o → ((on : Bool) → o ≡ Some on → on ≡ true) → ((on : Bool) → o ≡ Some on → on ≡ f)
    → true ≡ f
all-enabled None f s t u = absurd (false≢true s)
all-enabled (Some on) f s t u = sym (t on refl) ∙ u on refl

or_first : (a b : Bool) → (a || b) ≡ false → a ≡ false
or_first true b e = e
or_first false b e = refl

or_second : (a b : Bool) → (a || b) ≡ false → b ≡ false
or_second true b e = absurd (false≢true (sym e))
or_second false b e = e

not_false : (b : Bool) → not b ≡ false → b ≡ true
not_false true e = refl
not_false false e = sym e

-- one more setting
pub flags-set : (disabled enabled : Bool) (old new : List (Member × Bool)) (b : Member) → AreFlagsOf disabled old
    → ((q : Member) → value_at new q ≡ cond (same_member b q) (Some enabled) (value_at old q))
    → AreFlagsOf (disabled || not enabled) new
flags-set disabled enabled old new b before u none q on e =
    elim (same_member b q) as (λ t. cond t (Some enabled) (value_at old q) ≡ Some on → on ≡ true) [
      | true ↦ λ o. sym (ap (λ r. unwrap_or r on) o) ∙ not_false enabled (or_second disabled (not enabled) none)
      | false ↦ λ o. before (or_first disabled (not enabled) none) q on o
    ] (sym (u q) ∙ e)

-- flags that enable, with those that are there
pub flags-more : (disabled : Bool) (old new : List (Member × Bool)) → AreFlagsOf disabled old → ((q : Member) → Flags old new q)
    → AreFlagsOf disabled new
flags-more disabled old new before more none b on o = elim (more b) [
  | inl e ↦ before none b on (sym e ∙ o)
  | inr n ↦ ap (λ r. unwrap_or r true) (sym o ∙ n.1)
]
