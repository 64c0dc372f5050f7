-- The group's own events, read of the joined ones: what a step added to them, whatever the cells; and so the events of a group are those
-- of a group that is joined with its view.
use Rattle.std.proofs.Common.{◌≡◌, ◌∙◌, ℕ, Bool, true, false, cond, [], ◌∷◌, ◌++◌, refl, sym, ap}
use Rattle.std.specs.Prelude.{Option, Some, None, slice_get}
use Rattle.lb_rebuild_core.specs.SlotsHistory as slots
use Rattle.lb_rebuild_core.specs.GroupHistory as group
use Rattle.lb_rebuild_core.specs.GroupHistory.{Shown, Set, in_group, after_settings}
use Rattle.lb_rebuild_core.proofs.Histories.{group-joined, settings-group}
use Rattle.lb_world.specs.Steps.{Step}
use Rattle.lb_world.specs.Steps as step
use Rattle.lb_world.specs.declared.answer.Answer.{Answer}
use Rattle.lb_world.specs.declared.answer.Answer.TheVariants as answer
use Rattle.lb_world.specs.History.{History, GivenCells, is_at, members_in, settings_in, slot_in, config, entries, group_at, work, ended}
use Rattle.lb_world.specs.History as history
use Rattle.lb_world.specs.History.{joined_step, joined, slot_events}
use Rattle.lb_world.specs.GroupEvents.{cells_for, group_events}

either-way : {A B : Type 0} (f : A → B) (b : Bool) (new old : A) (v : B) → f new ≡ v → f (cond b new old) ≡ cond b v (f old)
either-way f true new old v here = here
either-way f false new old v here = refl

module _ {C : Type 0} where
  -- where a selection left the counter of tickets of a slot that is there
  abbrev pub drew : Option C → ℕ → ℕ → slots.History
  drew None s t = []
  drew (Some c) s t = slots.At s (slots.Drew t) ∷ []

  by-drew : (o : Option C) (s t : ℕ) (e : group.History) → history.drew o s t e ≡ in_group (drew o s t) ++ e
  by-drew None s t e = refl
  by-drew (Some c) s t e = refl

  -- what a step added to its group's own events, the newest first; k are those before
  abbrev pub happened : History C → slots.History → Step C → Answer → slots.History
  happened h k (step.update g now ls) (answer.Generation n) = slots.Scheduled (members_in ls) now ∷ []
  happened h k (step.ask g s now) (answer.Build n) = slots.At s (slots.Granted now) ∷ []
  happened h k (step.build g s now) (answer.BuildFailed n r) =
      slots.At s (slots.Failed now (slots.granted_members (slots.past_of s k))) ∷ []
  happened h k (step.failbuild g s now) (answer.Failed n) =
      slots.At s (slots.Failed now (slots.granted_members (slots.past_of s k))) ∷ []
  happened h k (step.lost g s) (answer.Lost n) = slots.At s slots.WorkerLost ∷ []
  happened h k (step.publish g s) (answer.Published n) =
      slots.At s (slots.Published (ended (work g s h)) (slots.granted_members (slots.past_of s k))) ∷ []
  happened h k (step.publish g s) (answer.Abandoned n) =
      slots.At s (slots.Abandoned (slots.granted_members (slots.past_of s k))) ∷ []
  happened h k (step.abandon g s) (answer.Abandoned n) =
      slots.At s (slots.Abandoned (slots.granted_members (slots.past_of s k))) ∷ []
  happened h k (step.enter g s) (answer.Reader t n) = slots.At s slots.Entered ∷ []
  happened h k (step.leave t) (answer.Left n) = slots.At (slot_in (slice_get (entries h) t)) (slots.Left n) ∷ []
  happened h k (step.destroy g s) answer.Destroyed = slots.At s slots.Destroyed ∷ slots.At s slots.TakenOut ∷ []
  happened h k (step.select g s key limit words) (answer.Backend b t) = drew (config g s h) s t
  happened h k (step.select g s key limit words) (answer.NoBackend t) = drew (config g s h) s t
  happened h k (step.select g s key limit words) (answer.NotSelected t) = drew (config g s h) s t
  happened h k (step.cancel g) answer.Cancelled = slots.Cancelled ∷ []
  happened h k st a = []

  -- the joined events after a step, by what it added to the own ones
  abbrev joined_by : GivenCells C → History C → slots.History → group.History → Step C → Answer → group.History
  joined_by cells h k e (step.update g now ls) (answer.Generation n) =
      after_settings (settings_in ls) (Shown (members_in ls) (cells g ls h) now ∷ e)
  joined_by cells h k e (step.update g now ls) (answer.Same n) = after_settings (settings_in ls) e
  joined_by cells h k e (step.enable g (Some b)) answer.Done = Set b true ∷ e
  joined_by cells h k e (step.disable g (Some b)) answer.Done = Set b false ∷ e
  joined_by cells h k e st a = in_group (happened h k st a) ++ e

  abbrev pub group_after_step : History C → slots.History → group.History → Step C → Answer → group.History
  group_after_step h k e st a = joined_by cells_for h k e st a

  by-happened : (cells : GivenCells C) (h : History C) (e : group.History) (st : Step C) (a : Answer)
      → joined_step cells h e st a ≡ joined_by cells h (group.slot_events e) e st a
  by-happened cells h e (step.update g now ls) (answer.Generation n) = refl
  by-happened cells h e (step.update g now ls) (answer.Same n) = refl
  by-happened cells h e (step.ask g s now) (answer.Build n) = refl
  by-happened cells h e (step.build g s now) (answer.BuildFailed n r) = refl
  by-happened cells h e (step.failbuild g s now) (answer.Failed n) = refl
  by-happened cells h e (step.lost g s) (answer.Lost n) = refl
  by-happened cells h e (step.publish g s) (answer.Published n) = refl
  by-happened cells h e (step.publish g s) (answer.Abandoned n) = refl
  by-happened cells h e (step.abandon g s) (answer.Abandoned n) = refl
  by-happened cells h e (step.enter g s) (answer.Reader t n) = refl
  by-happened cells h e (step.leave t) (answer.Left n) = refl
  by-happened cells h e (step.destroy g s) answer.Destroyed = refl
  by-happened cells h e (step.select g s key limit words) (answer.Backend b t) = by-drew (config g s h) s t e
  by-happened cells h e (step.select g s key limit words) (answer.NoBackend t) = by-drew (config g s h) s t e
  by-happened cells h e (step.select g s key limit words) (answer.NotSelected t) = by-drew (config g s h) s t e
  by-happened cells h e (step.enable g (Some b)) answer.Done = refl
  by-happened cells h e (step.disable g (Some b)) answer.Done = refl
  by-happened cells h e (step.cancel g) answer.Cancelled = refl
  by-happened cells h e st a = refl

  told : (cells : GivenCells C) (h : History C) (k : slots.History) (e : group.History) (st : Step C) (a : Answer)
      → group.slot_events e ≡ k → group.slot_events (joined_by cells h k e st a) ≡ happened h k st a ++ k
  told cells h k e (step.update g now ls) (answer.Generation n) is =
      settings-group (settings_in ls) (Shown (members_in ls) (cells g ls h) now ∷ e)
      ∙ ap (λ (l : slots.History). slots.Scheduled (members_in ls) now ∷ l) is
  told cells h k e (step.update g now ls) (answer.Same n) is = settings-group (settings_in ls) e ∙ is
  told cells h k e (step.enable g (Some b)) answer.Done is = is
  told cells h k e (step.disable g (Some b)) answer.Done is = is
  told cells h k e st a is = group-joined (happened h k st a) e ∙ ap (λ (l : slots.History). happened h k st a ++ l) is

  any-step : (cells : GivenCells C) (g : ℕ) (h : History C) (st : Step C) (a : Answer)
      → group.slot_events (joined cells g ((st, a) ∷ h))
      ≡ cond (is_at g (group_at h st))
      (happened h (group.slot_events (joined cells g h)) st a ++ group.slot_events (joined cells g h))
      (group.slot_events (joined cells g h))
  any-step cells g h st a =
      either-way group.slot_events (is_at g (group_at h st)) (joined_step cells h (joined cells g h) st a) (joined cells g h) _
      (ap group.slot_events (by-happened cells h (joined cells g h) st a)
      ∙ told cells h (group.slot_events (joined cells g h)) (joined cells g h) st a refl)

  -- the group's own events after a step
  abbrev pub own_after : ℕ → History C → Step C → Answer → slots.History
  own_after g h st a = cond (is_at g (group_at h st)) (happened h (slot_events g h) st a ++ slot_events g h) (slot_events g h)

  pub own-step : (g : ℕ) (h : History C) (st : Step C) (a : Answer) → slot_events g ((st, a) ∷ h) ≡ own_after g h st a
  own-step g h st a = any-step (λ i ls l. []) g h st a

  pub group-of : (g : ℕ) (h : History C) → group.slot_events (group_events g h) ≡ slot_events g h
  group-of g [] = refl
  group-of g ((st, a) ∷ h) =
      any-step cells_for g h st a
      ∙ ap (λ (k : slots.History). cond (is_at g (group_at h st)) (happened h k st a ++ k) k) (group-of g h)
      ∙ sym (own-step g h st a)

  -- the joined events after a step
  pub joined-after : (g : ℕ) (h : History C) (st : Step C) (a : Answer)
      → group_events g ((st, a) ∷ h)
      ≡ cond (is_at g (group_at h st)) (group_after_step h (slot_events g h) (group_events g h) st a) (group_events g h)
  joined-after g h st a =
      ap (λ (e : group.History). cond (is_at g (group_at h st)) e (group_events g h))
      (by-happened cells_for h (group_events g h) st a
      ∙ ap (λ (k : slots.History). group_after_step h k (group_events g h) st a) (group-of g h))
