-- Why it is refused, and what the core's call does, as the history tells it.
use Rattle.lb_rebuild_core.specs.SlotsCalls.{is_change, schedule_refusal}
use Rattle.lb_rebuild_core.specs.declared.membership.Scheduled.{Scheduled}
use Rattle.lb_health_view.specs.RegistrySide.{registry_updated}
use Rattle.lb_world.proofs.Updates.{Lacks, lacking, owned, refused, starved, updates, view-there}
use Rattle.lb_rebuild_core.specs.GroupCalls.{IsRefusedFor, Schedules, after_schedule}
use Rattle.lb_world.specs.Internal.Calls.{scheduled_as}
use Rattle.lb_rebuild_core.specs.GroupHistory as group
use Rattle.lb_rebuild_core.specs.GroupStates as stands
use Rattle.lb_health_core.specs.RegistryEvents as registry
use Rattle.lb_world.proofs.Words.{◌^◌, ◌↔◌, ◌∙◌, ◌∷◌, ◌≡◌, ◌≤◌, Answer, ap, Before, Bool, EntryNext, EntryValue, Err, false, GateValue}
use Rattle.lb_world.proofs.Words.{has_refused, History, IsRegistryAfter, IsTrue, group_events, GroupValue, key_gives, key_of, List, Listing}
use Rattle.lb_world.proofs.Words.{made_of, Meaning, meaning_of, members_in, None, Ok, refl, Refusal, registry_events, RegistryValue}
use Rattle.lb_world.proofs.Words.{settings_in, site, Step, subst, sym, true, true≢false, views_of, with_core, WorldRule, ℕ}
use Rattle.lb_world.proofs.Entries.{Moves, next-core, next-refused, stays}
use Rattle.lb_world.proofs.entry.Entry.update.Goals as goal

module _ {C : Type 0} {M : Meaning C} {h : History C} {g : ℕ} {e : EntryValue C} {z : GateValue} {v : RegistryValue WorldRule}
    (b : Before M h g e z v) (now : ℕ) (ls : List Listing) (whole : has_refused ls ≡ false) where
  abbrev st : Step C
  st = Step.update g now ls

  -- how many cells the registry has given once the membership is shown
  abbrev cells : ℕ
  cells =
      registry.cells_given (key_of g h) (registry.Updated e.core.view.id (members_in ls) ∷ registry.Applied ∷ registry_events e.registry h)

  -- the group has no cause of its own; and what the count of numbers says then, before memory is taken
  module _ (none : schedule_refusal (members_in ls) (group.slot_events (group_events g h)) ≡ None) {lack : Bool}
      (told : registry.has_view e.core.view.id (registry.views_after (registry_events e.registry h)) ≡ true
      → (IsTrue lack ↔ ((is_change (members_in ls) (group.slot_events (group_events g h)) ≡ true) × (2 ^ 64 ≤ cells))))
    where
      counted : IsTrue lack ↔ ((is_change (members_in ls) (group.slot_events (group_events g h)) ≡ true) × (2 ^ 64 ≤ cells))
      counted = told (view-there M h g now ls (made_of e) b.run b.is.made_is whole none)

      does-lack : lack ≡ true → EntryNext M h g st (Answer.Refused Refusal.NumbersExhausted) e z e z v
      does-lack is =
          let both = counted.0 is in
          next-refused b refl (lacking M h g now ls (made_of e) b.run b.is.made_is whole none both.0 both.1) (stays b.is)

      does-starve : lack ≡ false → EntryNext M h g st (Answer.Refused Refusal.OutOfMemory) e z e z v
      does-starve is =
          next-refused b refl
          (starved M h g now ls (made_of e) b.run b.is.made_is whole none
          (λ change many. true≢false (sym (counted.1 (change, many)) ∙ is))) (stays b.is)

  -- a refusal of the core's
  does-refuse : {r : Refusal} {core : GroupValue C} {u : RegistryValue WorldRule}
      → IsRefusedFor (group.slot_events (group_events g h)) (members_in ls) r
      → (r ≡ Refusal.NoSuch → registry.has_view e.core.view.id (registry.views_after (registry_events e.registry h)) ≡ false)
      → (r ≡ Refusal.NumbersExhausted → 2 ^ 64 ≤ cells) → Lacks M h g now ls (made_of e) (Err r) → Moves e (group_events g h) core
      → IsRegistryAfter key_gives (key_of g h) (registry_events e.registry h) u → u.id ≡ v.id
      → EntryNext M h g st (Answer.Refused r) e z (with_core core e) z u
  does-refuse {u = u} why unknown numbers lacks moves kept one =
      let lent : Before M h g e z u = record { run = b.run; is = b.is; out = b.out; kept = kept; own = one ∙ b.own } in
      next-refused lent refl (refused M h g now ls (made_of e) b.run b.is.made_is whole why unknown numbers lacks) moves

  -- the core made it the newest, or left the newest
  does-update : (s : Scheduled) {core : GroupValue C} {u : RegistryValue WorldRule}
      → Schedules (site e.core) (group_events g h) (members_in ls) (Ok s) → Lacks M h g now ls (made_of e) (Ok s)
      → Moves e
      (after_schedule (key_of g h) e.core.view.id (members_in ls) (settings_in ls) now (registry_events e.registry h) (group_events g h))
      core
      → IsRegistryAfter key_gives (key_of g h)
      (registry_updated (key_of g h) e.core.view.id (members_in ls) (views_of (site e.core) (group_events g h))
      (registry_events e.registry h)) u
      → u.id ≡ v.id → EntryNext M h g st (scheduled_as s) e z (with_core core e) z u
  does-update s {core} {u} scheduled lacks moves kept one =
      let did = updates M h g now ls (made_of e) b.run b.is.made_is whole (site e.core) s scheduled lacks in
      next-core b refl did.right (moves.0, subst (λ es. stands.Stands (site e.core) es core) (sym did.joins) moves.1) refl (λ x. refl)
      (λ m. refl) refl (subst (λ es. IsRegistryAfter key_gives (key_of g h) es u) (sym did.shares) kept, one ∙ b.own)

pub returns-in-Some : goal.returns-in-Some
returns-in-Some g c =
    rw (← c.self.view_is)
    (λ z h n b.
    next-refused b refl
    (owned (meaning_of g.S.BackendSelection) h n c.args.now c.args.listings.items _ b.run b.is.made_is c.requires.whole
    (sym (sym c.in-Some.is ∙ rw c.deref.ensures.value at ((rw (← c.self.view_is) at c.refusal.ensures) _ _ b.is.core_is))))
    (stays b.is))

pub returns : goal.returns
returns g c =
    rw (← c.self.view_is)
    (λ z h n b.
    let ls = c.args.listings.items in
    let set = rw c.in-Ok-Ok.is-1 at c.members_from.ensures.set in
    elim c.match-schedule.branch [
      | goal.in-Err w ↦
          rw w.result-is
          (does-refuse b c.args.now ls c.requires.whole (rw set at (w.in-Err.ensures.answers _ _ b.is.core_is))
          (λ e. w.in-Err.ensures.refusals.unknown (ap Err e) _ _ b.kept)
          (λ e. rw set at (w.in-Err.ensures.refusals.numbers (ap Err e) _ _ b.kept))
          (rw set at (w.in-Err.ensures.refusals.lacking _ _ b.kept _ _ b.is.core_is))
          (c.schedule.ensures.site, w.in-Err.ensures.err _ _ b.is.core_is)
          (w.in-Err.ensures.registry_err _ _ b.kept) c.schedule.ensures.one_registry)
      | goal.in-Ok w ↦
          let flags = rw c.in-Ok-Ok.is-0 at c.settings_from-settings.ensures.settings ∙ ap settings_in c.deref-3.ensures.value in
          rw (w.result-is, w.generation_of.ensures)
          (does-update b c.args.now ls c.requires.whole _ (rw set at (w.in-Ok.ensures.answers _ _ b.is.core_is))
          (rw set at (w.in-Ok.ensures.refusals.lacking _ _ b.kept _ _ b.is.core_is))
          (c.schedule.ensures.site, rw (set, flags) at (w.in-Ok.ensures.stands _ _ b.kept _ _ b.is.core_is))
          (rw set at (w.in-Ok.ensures.registry _ _ b.kept _ _ b.is.core_is)) c.schedule.ensures.one_registry)
    ])

pub returns-then-lacks_numbers : goal.returns-then-lacks_numbers
returns-then-lacks_numbers g c =
    rw (← c.self.view_is)
    (λ z h n b.
    let none = sym (rw c.deref.ensures.value at ((rw (← c.self.view_is) at c.refusal.ensures) _ _ b.is.core_is)) ∙ c.in_default.is in
    does-lack b c.args.now c.args.listings.items c.requires.whole none
    (λ there. rw c.deref-2.ensures.value at ((rw (← c.self.view_is) at c.lacks_numbers.ensures) _ _ b.kept there _ _ b.is.core_is))
    c.if-lacks_numbers.true)

pub returns-in_default-2 : goal.returns-in_default-2
returns-in_default-2 g c =
    rw (← c.self.view_is)
    (λ z h n b.
    let none = sym (rw c.deref.ensures.value at ((rw (← c.self.view_is) at c.refusal.ensures) _ _ b.is.core_is)) ∙ c.in_default.is in
    does-starve b c.args.now c.args.listings.items c.requires.whole none
    (λ there. rw c.deref-2.ensures.value at ((rw (← c.self.view_is) at c.lacks_numbers.ensures) _ _ b.kept there _ _ b.is.core_is))
    c.if-lacks_numbers.false)
