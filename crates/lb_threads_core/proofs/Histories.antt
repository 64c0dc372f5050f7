-- Calls of a registry lengthen its history, whatever they answer.
use Rattle.std.proofs.Common.{◌≡◌, refl, sym, ap, subst, Bool, true, false, List, [], ◌∷◌, ◌++◌, append_assoc}
use Rattle.std.specs.Prelude.{ℕ, ◌+◌, Result, Ok, Err, OnOk, OnErr, if◌then◌else◌}
use Rattle.lb_select_base.specs.Backends.{Member}
use Rattle.lb_select_base.specs.Memberships.{same_members}
use Rattle.lb_select_base.specs.declared.refusal.Refusal.{Refusal}
use Rattle.lb_health_core.specs.Registry.{RegistryValue, IsRegistryAfter, Grows, KeepsHistory}
use Rattle.lb_health_core.specs.RegistryEvents.{Event, Applied, Registered, Updated, Held, Released, members_of, views_after}
use Rattle.lb_health_core.specs.RegistryEvents.{after_update}
use Rattle.lb_health_view.specs.RegistrySide.{lives, registry_updated, view_changed}
use Rattle.lb_health_view.specs.ViewEvents.{ViewEvent, snapshots_after, generation_after, membership_after}
use Rattle.lb_threads_core.specs.Registry.{IsRegistryOf}

-- these events and some more
abbrev pub Longer : List Event → List Event → Type 0
Longer events es = (more : List Event) × (es ≡ more ++ events)

pub no_more : (events : List Event) → Longer events events
no_more events = ([], refl)

pub one_more : {events es : List Event} (x : Event) → Longer events es → Longer events (x ∷ es)
one_more x (more, is) = (x ∷ more, ap (λ l. x ∷ l) is)

either : (b : Bool) {events xs ys : List Event} → Longer events xs → Longer events ys → Longer events (if b then xs else ys)
either true xs ys = xs
either false xs ys = ys

updated : (id : ℕ) (members : List Member) (events : List Event) → Longer events (after_update id members events)
updated id members events =
    either (same_members members (members_of id (views_after events))) (no_more events)
    (one_more (Updated id members) (one_more Applied (no_more events)))

pub released : (id g : ℕ) (views : List ViewEvent) (events es : List Event) → Longer events es
    → Longer events (if lives g (snapshots_after views) then es else Released id g ∷ es)
released id g views events es longer = either (lives g (snapshots_after views)) longer (one_more (Released id g) longer)

-- an update of a view
pub changed : (key_of : Member → Member) (id : ℕ) (members : List Member) (views : List ViewEvent) (events : List Event)
    → Longer events (registry_updated key_of id members views events)
changed key_of id members views events =
    either (same_members members (membership_after views)) (no_more events)
    (released id (generation_after views) (view_changed key_of id members events views) events
    (Held id (generation_after views + 1) ∷ Updated id members ∷ Applied ∷ events)
    (one_more (Held id (generation_after views + 1)) (one_more (Updated id members) (one_more Applied (no_more events)))))

module _ {R : Type 0} {gives : R → Member → Member → Type 0} where
  -- what lengthens each history leaves the registry
  pub lengthened : {x y : RegistryValue R} (grow : (Member → Member) → List Event → List Event)
      → ((key_of : Member → Member) (events : List Event) → Longer events (grow key_of events))
      → ((key_of : Member → Member) (events : List Event) → IsRegistryAfter gives key_of events x
      → IsRegistryAfter gives key_of (grow key_of events) y)
      → IsRegistryOf gives x y
  lengthened {y = y} grow longer becomes key_of events after =
      let l = longer key_of events in
      (l.0, subst (λ es. IsRegistryAfter gives key_of es y) l.1 (becomes key_of events after))

  pub stays : {x y : RegistryValue R} → KeepsHistory gives x y → IsRegistryOf gives x y
  stays becomes key_of events after = ([], becomes key_of events after)

  -- a call of a registry that further events have made of another
  pub later : {start x y : RegistryValue R} → IsRegistryOf gives start x → IsRegistryOf gives x y → IsRegistryOf gives start y
  later {y = y} of more key_of events after =
      let first = of key_of events after in
      let then_ = more key_of (first.0 ++ events) first.1 in
      (then_.0 ++ first.0, subst (λ es. IsRegistryAfter gives key_of es y) (sym (append_assoc then_.0 first.0 events)) then_.1)

  -- the registry that a group is over is the one of its site
  pub at_site : {start site x : RegistryValue R} → start ≡ site → IsRegistryOf gives start x → IsRegistryOf gives site x
  at_site {x = x} same of = subst (λ s. IsRegistryOf gives s x) same of

  -- a call that adds one event where it isn't refused
  pub added : {A E : Type 0} (r : Result A E) (e : Event) {x y : RegistryValue R} → OnOk r (Grows gives x (λ events. e ∷ events) y)
      → OnErr r (KeepsHistory gives x y) → IsRegistryOf gives x y
  added (Ok a) e ok err = lengthened (λ key_of events. e ∷ events) (λ key_of events. one_more e (no_more events)) ok
  added (Err a) e ok err = stays err

  -- a call that adds one event, or is refused and changes nothing
  pub added_or_same : {A E : Type 0} (r : Result A E) (e : Event) {x y : RegistryValue R}
      → OnOk r (Grows gives x (λ events. e ∷ events) y)
      → OnErr r (y ≡ x) → IsRegistryOf gives x y
  added_or_same (Ok a) e ok err = lengthened (λ key_of events. e ∷ events) (λ key_of events. one_more e (no_more events)) ok
  added_or_same (Err a) e {x = x} ok err = subst (λ z. IsRegistryOf gives x z) (sym err) (stays (λ key_of events after. after))

  pub updated_later : (r : Result (Unit {0}) Refusal) (id : ℕ) (members : List Member) {x y : RegistryValue R}
      → OnOk r (Grows gives x (after_update id members) y) → OnErr r (KeepsHistory gives x y) → IsRegistryOf gives x y
  updated_later (Ok a) id members ok err = lengthened (λ key_of events. after_update id members events)
      (λ key_of events. updated id members events) ok
  updated_later (Err a) id members ok err = stays err

  pub marked_later : {x y : RegistryValue R} (e : Event) → Grows gives x (λ events. e ∷ events) y → IsRegistryOf gives x y
  marked_later e becomes = lengthened (λ key_of events. e ∷ events) (λ key_of events. one_more e (no_more events)) becomes

  -- a view is registered, or refused
  pub registered_later : {A E : Type 0} (r : Result A E) {x y : RegistryValue R}
      → OnOk r (Grows gives x (λ events. Applied ∷ Registered ∷ events) y)
      → OnErr r (KeepsHistory gives x y) → IsRegistryOf gives x y
  registered_later (Ok a) ok err =
      lengthened (λ key_of events. Applied ∷ Registered ∷ events) (λ key_of events. one_more Applied (one_more Registered (no_more events)))
      ok
  registered_later (Err a) ok err = stays err
