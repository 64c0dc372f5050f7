-- A loop that drives a run by turns: it began with the first event, and a run that began never waits for targets or for the end alone.
use Rattle.std.proofs.Common.{◌≡◌, ◌≢◌, ◌∙◌, ℕ, Bool, true, false, not, ◌&&◌, ◌||◌, List, [], ◌∷◌, refl, sym, ap}
use Rattle.std.proofs.Common.{if◌then◌else◌}
use Rattle.lb_background.specs.declared.event.Event.{Event}
use Rattle.lb_background.specs.declared.event.Event.TheVariants as on
use Rattle.lb_background.specs.declared.event.Action.{Action}
use Rattle.lb_background.specs.declared.event.Action.TheVariants as to
use Rattle.lb_background.specs.Schedule.{due, is_idle, next_moment}
use Rattle.lb_background.specs.Turns.{Plan, RunValue, awaits, has_reached, is_update, is_ready, is_check, is_sleep}
use Rattle.lb_background.specs.Turns.{at_rest, at_check, at_tell, at_turn, action_at, stage, noted, with_last}
use Rattle.lb_background.specs.History.{Heard, heard, last, begun, is_start, is_shutdown, state, IsRun, IsAfter}
use Rattle.lb_background.proofs.LawLemmas.{falsehood}
use Rattle.lb_background.proofs.RunLemmas.{stepped}
use Rattle.lb_background.specs.Driven.{Driven, Told, is_turn}

-- what a run that began never answers
abbrev waits : Action → Bool
waits to.WaitTargets = true
waits to.Hold = true
waits to.Update = false
waits to.Check = false
waits to.Ready = false
waits (to.SleepUntil m) = false
waits to.Return = false

one_of : (b : Bool) (a c : Action) → waits a ≡ false → waits c ≡ false → waits (if b then a else c) ≡ false
one_of true a c is other = is
one_of false a c is other = other

rests : (r : RunValue) → waits (at_rest r) ≡ false
rests r = one_of (not (awaits r) && is_idle r.schedule) to.Return (to.SleepUntil (next_moment r.schedule r.base)) refl refl

checks : (r : RunValue) → waits (at_check r) ≡ false
checks r = one_of (due r.schedule.check_next r.base) to.Check (at_rest r) refl (rests r)

tells : (r : RunValue) (least : ℕ) → waits (at_tell r least) ≡ false
tells r least = one_of (r.plan.notifier && not r.told && has_reached r least) to.Ready (at_check r) refl (checks r)

turns : (r : RunValue) (least : ℕ) → waits (at_turn r least) ≡ false
turns r least = one_of (due r.schedule.update_next r.base) to.Update (at_tell r least) refl (tells r least)

by_flag : {St : Type 0} (go : St → Action) (b : Bool) (s t : St) → (b ≡ true → waits (go s) ≡ false) → waits (go t) ≡ false
    → waits (go (if b then s else t)) ≡ false
by_flag go true s t fits stays = fits refl
by_flag go false s t fits stays = stays

answers : (r s : RunValue) (e : Event) (least : ℕ) → (s.begun ≡ true → waits r.last ≡ false)
    → ((is_start e || is_shutdown e) || s.begun) ≡ true → waits (action_at r (stage s e) least) ≡ false
answers r s on.Shutdown least kept b = refl
answers r s on.Start least kept b = by_flag (λ x. action_at r x least) s.begun _ _ kept (turns r least)
answers r s (on.Updated u) least kept b = by_flag (λ x. action_at r x least) (is_update s.last) _ _ (λ fits. tells r least) (kept b)
answers r s on.Told least kept b = by_flag (λ x. action_at r x least) (is_ready s.last) _ _ (λ fits. checks r) (kept b)
answers r s on.Checked least kept b = by_flag (λ x. action_at r x least) (is_check s.last) _ _ (λ fits. rests r) (kept b)
answers r s on.Woke least kept b = by_flag (λ x. action_at r x least) (is_sleep s.last) _ _ (λ fits. turns r least) (kept b)
answers r s on.Rebuilt least kept b = by_flag (λ x. action_at r x least) (is_sleep s.last && awaits s) _ _ (λ fits. turns r least) (kept b)
answers r s on.Targets least kept b = kept b
answers r s on.ViewRemoved least kept b = kept b
answers r s on.Closed least kept b = kept b

never_waits : (p : Plan) (h : List Heard) → IsRun p h → begun h ≡ true → waits (last h) ≡ false
never_waits p [] run b = absurd (falsehood b)
never_waits p (x ∷ h) run b =
    ap waits run.0
    ∙ answers (with_last (state p (x ∷ h)) (last h)) (state p h) x.event x.given (λ was. never_waits p h run.1 was) b

asks : (a : Action) → waits a ≡ false → a ≢ to.Return → is_turn a ≡ true
asks to.Update is more = refl
asks to.Check is more = refl
asks to.Ready is more = refl
asks (to.SleepUntil m) is more = refl
asks to.WaitTargets is more = absurd (falsehood (sym is))
asks to.Hold is more = absurd (falsehood (sym is))
asks to.Return is more = absurd (more refl)

-- what a step of a run that began answers, but for the end, is a turn's
pub stepped_asks : (r : RunValue) (now given : ℕ) (e : Event) (h : List Heard) (a : Action) (n : RunValue)
    → n ≡ with_last (noted r now e) a → a ≡ action_at (noted r now e) (stage r e) given
    → IsAfter r h → begun (heard now given e a ∷ h) ≡ true → a ≢ to.Return → is_turn a ≡ true
stepped_asks r now given e h a n is answers after b more =
    let x = heard now given e a in
    asks a (never_waits n.plan (x ∷ h) (stepped r now given e h a n is answers after).run b) more

or_true : (a b : Bool) → b ≡ true → (a || b) ≡ true
or_true true b is = refl
or_true false b is = is

module _ {P : Type 0} (reads : P → ℕ → ℕ → P → Type 0) (does : P → Action → Event → P → Type 0) where
  -- the first event is the start
  pub has_begun : (p q m : P) (h : List Heard) (e : Event) → Driven reads does p h q → Told reads does q h e m
      → ((is_start e || is_shutdown e) || begun h) ≡ true
  has_begun p q m [] e driven told = rw told.0 refl
  has_begun p q m (x ∷ h) e driven told =
      or_true (is_start e || is_shutdown e) (begun (x ∷ h)) (has_begun p driven.0 driven.1 h x.event driven.2 driven.3)
