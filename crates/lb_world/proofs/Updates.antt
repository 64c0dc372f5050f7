-- The right answer to an update, by what the call of a joined group says of it: why the membership was refused, or which generation
-- is the newest; and what an update that wasn't refused does, in the words of that call.
use Rattle.std.proofs.Common.{◌≡◌, ◌≤◌, ◌+◌, ◌==◌, ◌^◌, ◌&&◌, ◌∙◌, ℕ, Bool, true, false, true≢false, cond, nat_le, List, ◌∷◌, length, inl}
use Rattle.std.proofs.Common.{inr, refl, sym, ap, subst, arith}
use Rattle.std.specs.Prelude.{Option, Some, None, Result, Ok, Err}
use Rattle.std.specs.Option.{option_map}
use Rattle.std.proofs.lemmas.Bool.{eq-eqb, not-false}
use Rattle.lb_select_base.specs.Memberships.{same_members}
use Rattle.lb_select_base.specs.Refusals.{earlier}
use Rattle.lb_select_base.specs.declared.refusal.Refusal.{Refusal}
use Rattle.lb_select_base.specs.declared.refusal.Refusal.TheVariants as refusal
use Rattle.lb_health_core.specs.RegistryEvents as registry
use Rattle.lb_health_view.specs.RegistrySide.{registry_updated}
use Rattle.lb_health_view.specs.ViewEvents.{ViewEvent}
use Rattle.lb_rebuild_core.specs.SlotsHistory as slots
use Rattle.lb_rebuild_core.specs.SlotsHistory.{is_cancelled, newest}
use Rattle.lb_rebuild_core.specs.SlotsCalls.{is_change, schedule_refusal}
use Rattle.lb_rebuild_core.specs.Stands as group-made
use Rattle.lb_rebuild_core.specs.declared.membership.Scheduled.{Scheduled}
use Rattle.lb_rebuild_core.specs.GroupCalls.{IsRefusedFor, Schedules, after_schedule}
use Rattle.lb_rebuild_core.specs.GroupHistory as group
use Rattle.lb_world.specs.Steps.{Step}
use Rattle.lb_world.specs.Steps as step
use Rattle.lb_world.specs.declared.answer.Answer.{Answer}
use Rattle.lb_world.specs.declared.answer.Answer.TheVariants as answer
use Rattle.lb_world.specs.declared.step.Listing.{Listing}
use Rattle.lb_world.specs.Meanings.{Meaning}
use Rattle.lb_world.specs.History.{History, Made, members_in, made_at, settings_in, slot_events}
use Rattle.lb_world.specs.Shared.{view_in, key_of, events_in, registry_events}
use Rattle.lb_world.specs.Answers.{Answers, IsRun, at_one, has_refused, no_number, refuse, unless_refused, update_answer, without_memory}
use Rattle.lb_world.specs.GroupEvents.{Updated, group_events, view_events}
use Rattle.lb_world.proofs.Accepted.{goes-on, right_answer}
use Rattle.lb_world.proofs.Causes.{caused, cause-first, number-left, number-wanted, out-of-memory, uncaused, wanted-both}
use Rattle.lb_world.proofs.Joining.{follows}
use Rattle.lb_world.proofs.Placing.{same-either}
use Rattle.lb_world.proofs.Registered.{is-registered}
use Rattle.lb_world.proofs.Sharing.{shares}
use Rattle.lb_world.proofs.Together.{schedules-alike, views-of}
use Rattle.lb_world.proofs.Own.{group-of, group_after_step, joined-after}

-- a number is wanted for another membership alone
unwanted : (c : Bool) (n : ℕ) → (c ≡ true → 2 ^ 64 ≤ n → ⊥) → cond c (no_number n) None ≡ None
unwanted true n few = let left = few refl in number-left n (omega (arith, left))
unwanted false n few = refl

first-of : {A : Type 0} (b : Bool) (x y : A) → b ≡ true → x ≡ cond b x y
first-of true x y is = refl
first-of false x y is = absurd (true≢false (sym is))

memory-told : {C : Type 0} (st : Step C) (n : ℕ) (c : Bool) → without_memory st (update_answer n c) ≡ refuse refusal.OutOfMemory
memory-told st n true = refl
memory-told st n false = refl

scheduled-told : (c : Bool) (n : ℕ) (s : Scheduled) → s.changed ≡ c → s.generation ≡ cond c (n + 1) n
    → cond s.changed (answer.Generation s.generation) (answer.Same s.generation) ≡ update_answer n c
scheduled-told true n s changed number = rw (changed, number) refl
scheduled-told false n s changed number = rw (changed, number) refl

module _ {C : Type 0} (M : Meaning C) (h : History C) (g now : ℕ) (ls : List Listing) (m : Made C) where
  abbrev st : Step C
  st = step.update g now ls

  -- the group's own cause, whether it is another membership, and how many cells the registry has given once it is shown
  abbrev own : Option Refusal
  own = schedule_refusal (members_in ls) (group.slot_events (group_events g h))

  abbrev change : Bool
  change = is_change (members_in ls) (group.slot_events (group_events g h))

  abbrev cells : ℕ
  cells = registry.cells_given (key_of g h) (registry.Updated m.view (members_in ls) ∷ registry.Applied ∷ registry_events m.registry h)

  abbrev cause : Option Refusal
  cause = earlier own (cond change (no_number cells) None)

  abbrev answered : Answer
  answered = update_answer (newest (group.slot_events (group_events g h))) change

  abbrev IsThere : Bool → Type 0
  IsThere b = registry.has_view m.view (registry.views_after (registry_events m.registry h)) ≡ b

  -- what a call answers to another membership for which no number is left
  abbrev pub Lacks : Result Scheduled Refusal → Type 0
  Lacks r = own ≡ None → change ≡ true → IsThere true → 2 ^ 64 ≤ cells → r ≡ Err refusal.NumbersExhausted

  -- an update that wasn't refused, in the words of the call that did it
  pub record Updates (a : Answer) : Type 0 where
    pub right : Answers M h st a
    pub joins : group_after_step h (slot_events g h) (group_events g h) st a
        ≡ after_schedule (key_of g h) m.view (members_in ls) (settings_in ls) now (registry_events m.registry h) (group_events g h)
    pub shares : registry_events m.registry ((st, a) ∷ h)
        ≡ registry_updated (key_of g h) m.view (members_in ls) (group.view_events (length m.configs) (group_events g h))
        (registry_events m.registry h)

  module _ (run : IsRun M h) (made_is : made_at g h ≡ Some m) (whole : has_refused ls ≡ false) where
    told : right_answer M h st ≡ unless_refused cause answered
    told =
        let Told : slots.History → Made C → Answer = λ k x.
        unless_refused
        (earlier (schedule_refusal (members_in ls) k)
        (cond (is_change (members_in ls) k)
        (no_number (registry.cells_given (key_of g h)
        (registry.Updated x.view (members_in ls) ∷ registry.Applied ∷ registry_events x.registry h))) None))
        (update_answer (newest k) (is_change (members_in ls) k)) in
        ap (λ t. cond t (refuse refusal.InvalidAddress) (at_one (made_at g h) (Told (slot_events g h)))) whole
        ∙ ap (λ o. at_one o (Told (slot_events g h))) made_is ∙ ap (λ k. Told k m) (sym (group-of g h))

    -- the view of a group that has no cause is there
    pub view-there : own ≡ None → IsThere true
    view-there none =
        is-registered M h run g m made_is
        (rw (group-of g h) at (goes-on (change && newest (group.slot_events (group_events g h)) == 18446744073709551615)
        (is_cancelled (group.slot_events (group_events g h))) none))

    -- refused for a cause of the group's, for the want of numbers, and for memory
    pub owned : {r : Refusal} → own ≡ Some r → Answers M h st (refuse r)
    owned is = caused st answered told (ap (earlier own) (wanted-both change _) ∙ cause-first (change && nat_le (2 ^ 64) cells) is)

    pub lacking : own ≡ None → change ≡ true → 2 ^ 64 ≤ cells → Answers M h st (refuse refusal.NumbersExhausted)
    lacking none is many = caused st answered told (rw (none, is, number-wanted cells many) refl)

    fits : own ≡ None → (change ≡ true → 2 ^ 64 ≤ cells → ⊥) → cause ≡ None
    fits none few = rw none (unwanted change cells few)

    pub starved : own ≡ None → (change ≡ true → 2 ^ 64 ≤ cells → ⊥) → Answers M h st (refuse refusal.OutOfMemory)
    starved none few =
        out-of-memory st answered told (fits none few) (memory-told st (newest (group.slot_events (group_events g h))) change)

    -- what the call says of a refusal
    pub refused : {r : Refusal} → IsRefusedFor (group.slot_events (group_events g h)) (members_in ls) r
        → (r ≡ refusal.NoSuch → IsThere false) → (r ≡ refusal.NumbersExhausted → 2 ^ 64 ≤ cells) → Lacks (Err r) → Answers M h st (refuse r)
    refused {r} why unknown numbers lacks =
        elim why [
          | inl is ↦ owned is
          | inr none ↦ elim none.2 [
            | inl memory ↦
                rw memory
                (starved none.0 (λ c many. absurd (let clash : Err r ≡ Err refusal.NumbersExhausted =
                lacks none.0 c (view-there none.0) many in cc)))
            | inr (inl numbers_are) ↦ rw numbers_are (lacking none.0 none.1 (numbers numbers_are))
            | inr (inr missing) ↦ absurd (true≢false (sym (view-there none.0) ∙ unknown missing))
          ]
        ]

    -- and of a membership that it made the newest, or that was so
    pub updates : (made : group-made.Made C) (s : Scheduled) → Schedules made (group_events g h) (members_in ls) (Ok s) → Lacks (Ok s)
        → Updates (cond s.changed (answer.Generation s.generation) (answer.Same s.generation))
    updates made s scheduled lacks =
        subst Updates (sym (scheduled-told change N s scheduled.1 scheduled.2)) (by-change change refl)
      where
        N : ℕ
        N = newest (group.slot_events (group_events g h))

        right : (c : Bool) → change ≡ c → Answers M h st (update_answer N c)
        right c is =
            let few = λ (d : change ≡ true) (many : 2 ^ 64 ≤ cells).
            let clash : Ok s ≡ Err refusal.NumbersExhausted = lacks scheduled.0 d (view-there scheduled.0) many in absurd (cc) in
            inl (sym (uncaused st answered told (fits scheduled.0 few) ∙ ap (update_answer N) is))

        -- the group's events with the view's are those that the step did
        joins : (a : Answer) → Updated h g now ls a
            → group_after_step h (slot_events g h) (group_events g h) st a
            ≡ after_schedule (key_of g h) m.view (members_in ls) (settings_in ls) now (registry_events m.registry h) (group_events g h)
        joins a alike =
            sym (ap (λ b. cond b (group_after_step h (slot_events g h) (group_events g h) st a) (group_events g h)) (eq-eqb g g refl))
            ∙ sym (joined-after g h st a) ∙ alike
            ∙ ap
            (λ o.
            after_schedule (key_of g h) (view_in o) (members_in ls) (settings_in ls) now (events_in (option_map (λ x. x.registry) o) h)
            (group_events g h))
            made_is

        updated-by : (vs : List ViewEvent) → List registry.Event
        updated-by vs = registry_updated (key_of g h) m.view (members_in ls) vs (registry_events m.registry h)

        views : view_events g h ≡ group.view_events (length m.configs) (group_events g h)
        views = sym (views-of g h m made_is)

        by-change : (c : Bool) → change ≡ c → Updates (update_answer N c)
        by-change true is =
            record {
              right = right true is;
              joins = joins (answer.Generation (N + 1)) (schedules-alike M h st (answer.Generation (N + 1)) (run, right true is));
              shares = shares M h st (answer.Generation (N + 1)) (run, right true is) m made_is ∙ ap updated-by views;
            }
        by-change false is =
            let same = ap (same_members (members_in ls)) (follows M h run g).membership
            ∙ not-false (same_members (members_in ls) _) (rw (group-of g h) at is) in
            record {
              right = right false is;
              joins = joins (answer.Same N) (schedules-alike M h st (answer.Same N) (run, right false is));
              shares = same-either _ (registry_events m.registry h)
                  ∙ first-of _ (registry_events m.registry h) _ same ∙ ap updated-by views;
            }
