-- Each view whose owner is gone is a mark more, and what is released of it.
use Rattle.std.proofs.Common.{rules, ◌≡◌, ◌∙◌, ◌∷◌, ◌++◌, [], ℕ, Bool, true, List, Option, Some, IfSome, map, ap, append_assoc, subst, sym}
use Rattle.std.specs.Arc.{arc_value}
use Rattle.std.specs.List.{AllByRecursion}
use Rattle.lb_select_base.specs.Backends.{Member}
use Rattle.lb_health_core.specs.Registry.{IsRegistryAfter, RegistryValue, Grows}
use Rattle.lb_health_core.specs.RegistryEvents.{Event, Marked, Released}
use Rattle.lb_threads_core.specs.Internal.Leaving.{EndsSnapshots, HaveLeft, IsLeaving, IsNoteOf}
use Rattle.lb_threads_core.specs.declared.owner.ViewNote.{ViewNote}
use Rattle.lb_threads_core.proofs.registry.remove_gone.Goals as goal

at-some : {A : Type 0} (P : A → Type 0) {o : Option A} {x : A} → o ≡ Some x → IfSome o P → P x
at-some P is told = subst (λ q. IfSome q P) is told

releases-leave : (is_of : ℕ → Bool) (id : ℕ) → is_of id ≡ true → (generations : List ℕ) (rest : List Event)
    → AllByRecursion (IsLeaving is_of) rest → AllByRecursion (IsLeaving is_of) (map (λ g. Released id g) generations ++ rest)
releases-leave is_of id is [] rest told = told
releases-leave is_of id is (g ∷ gs) rest told = (is, releases-leave is_of id is gs rest told)

module _ {R : Type 0} {gives : R → Member → Member → Type 0} where
  left-more : (is_of : ℕ → Bool) (id : ℕ) → is_of id ≡ true → {x y z w : RegistryValue R} → HaveLeft gives is_of x y
      → Grows gives y (λ events. Marked id ∷ events) z → z.id ≡ y.id → EndsSnapshots gives id z w → HaveLeft gives is_of x w
  left-more is_of id is {w = w} before marked same released = record {
    events = map (λ g. Released id g) released.generations ++ Marked id ∷ before.events;
    one = released.one ∙ same ∙ before.one;
    leaving = releases-leave is_of id is released.generations (Marked id ∷ before.events) (is, before.leaving);
    becomes = λ key_of events after. subst (λ es. IsRegistryAfter gives key_of es w)
        (sym (append_assoc (map (λ g. Released id g) released.generations) (Marked id ∷ before.events) events))
        (released.becomes key_of (Marked id ∷ before.events ++ events)
        (marked key_of (before.events ++ events) (before.becomes key_of events after)));
  }

pub loop-preserved : goal.loop-preserved
loop-preserved g c =
    λ is_of all.
    let was = c.loop.invariant is_of all in
    let found = c.take_gone.ensures is_of was.0 in
    let id = c.deref.result.now.id in
    let same : c.deref.result.now ≡ arc_value c.in-Some.view = search rules in
    let of_note = at-some (λ n. IsNoteOf is_of (arc_value n)) c.in-Some.is found.1 in (
      found.0,
      left-more is_of id (ap (λ (n : ViewNote). is_of n.id) same ∙ of_note) was.1 c.remove_view.ensures.after c.remove_view.ensures.one
          c.release_all.ensures,
    )

pub returns : goal.returns
returns g c = λ is_of all. (c.loop.invariant is_of all).1
