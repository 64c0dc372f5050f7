-- A selection by readiness: each backend that is asked about is judged in the generation that the slot serves.
use Rattle.std.proofs.Common.{◌≡◌, ◌∙◌, ℕ, Bool, List, refl, sym, subst, Option, Some, slice_get, unwrap_or, length}
use Rattle.std.proofs.lemmas.Bool.{lt-ltb}
use Rattle.std.proofs.lemmas.Option.{slice_get_within}
use Rattle.std.specs.Borrow.{Bor}
use Rattle.std.specs.Fn.{Shared, FnReturns}
use Rattle.lb_select_base.specs.Backends.{Member}
use Rattle.lb_select_base.specs.Draws.{Draw}
use Rattle.lb_rebuild_core.specs.SlotsCalls.{at_slot, SelectsIn}
use Rattle.lb_rebuild_core.specs.SlotsHistory as slots
use Rattle.lb_rebuild_core.specs.Stands.{Made}
use Rattle.lb_rebuild_core.specs.declared.answers.Selection.{Selection}
use Rattle.lb_rebuild_core.proofs.Selecting.{selects-in-more}
use Rattle.lb_health_view.specs.Snapshots.{ViewValue}
use Rattle.lb_health_view.specs.Views.{IsViewAfter}
use Rattle.lb_health_core.specs.Registry.{RegistryValue, IsRegistryAfter}
use Rattle.lb_health_core.specs.RegistryEvents as registry
use Rattle.lb_rebuild_core.specs.GroupCalls.{served_at, Judges, IsJudged, AcceptsBy}
use Rattle.lb_rebuild_core.specs.GroupHistory.{History}
use Rattle.lb_rebuild_core.specs.GroupStates.{views_of}

-- the number of a slot that is there
pub number-there : {C : Type 0} (made : Made C) (slot n : ℕ) (o : Option ℕ) (c : C) → slice_get made.configs slot ≡ Some c
    → o ≡ at_slot made slot n → unwrap_or o 0 ≡ n
number-there made slot n o c there is =
    rw (is, lt-ltb slot (length made.configs) (slice_get_within made.configs slot c there)) refl

module _ {R : Type 0} {gives : R → Member → Member → Type 0} {v : ViewValue} {r : RegistryValue R} {F : Type 0}
    {g : Shared F (Bor Member × (Bool × Unit {0})) Bool} {f : F} where
  -- what is right of a backend whatever view and registry have been through is right after these histories
  pub accepts-served : {C : Type 0} (key_of : Member → Member) (events : List registry.Event) (made : Made C) (e : History) (slot n : ℕ)
      → IsViewAfter (views_of made e) v → IsRegistryAfter gives key_of events r → n ≡ served_at slot e → (p b : Member) (a : Bool) → p ≡ b
      → AcceptsBy g f (IsJudged gives v r n) p a → AcceptsBy g f (Judges key_of events made e (served_at slot e)) b a
  accepts-served key_of events made e slot n view rule at p b a is by =
      record {
        shown = by.shown;
        shows = by.shows ∙ is;
        told = by.told;
        is_right = subst (λ k. Judges key_of events made e k b by.told) at
            (subst (λ q. IsJudged gives v r n q by.told) is by.is_right key_of (views_of made e) events view rule);
        says = by.says;
      }

-- where what was asked answers by what it is passed, what it accepts is what is right
pub told-in-more : {C F : Type 0} {g : Shared F (Bor Member × (Bool × Unit {0})) Bool} {f : F}
    (right : Member → Bool → Type 0) (may : List Member → C → Bool) (walks : List Member → C → List ℕ → List Draw → List Member → Bool
    → Type 0) (load_by : Member → ℕ)
    (made : Made C) (h : slots.History) (slot : ℕ) (key : List ℕ) (limit : ℕ) (words : List ℕ) (s : Selection)
    → SelectsIn may walks (λ b a. AcceptsBy g f right b a) load_by made h slot key limit words s
    → ((p : Bor Member) (told a : Bool) → FnReturns g f (p, (told, tt)) a → a ≡ told)
    → SelectsIn may walks right load_by made h slot key limit words s
told-in-more {g = g} {f = f} right may walks load_by made h slot key limit words s is same =
    selects-in-more may walks (λ b a. AcceptsBy g f right b a) right load_by made h slot key limit words s is
    (λ c there b a by. subst (λ x. right b x) (sym (same by.shown by.told a by.says)) by.is_right)
