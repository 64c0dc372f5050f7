-- In a run what happens to each slot is a past that can happen, and something is held of a job exactly while it is in flight or lost.
use Rattle.std.proofs.Common.{◌≡◌, ◌<◌, ◌+◌, ◌==◌, ◌&&◌, ◌∙◌, ℕ, Bool, true, false, cond, [], ◌∷◌, ◌++◌, refl, sym, ap, subst, arith}
use Rattle.std.proofs.Common.{count_by}
use Rattle.std.specs.Prelude.{Option, Some, None, not, slice_get, slice_set}
use Rattle.std.proofs.lemmas.Bool.{eq-eqb, eqb-true, and_parts, not-true}
use Rattle.lb_rebuild_core.specs.SlotsHistory as slots
use Rattle.lb_rebuild_core.specs.SlotsHistory.{At, past_of, granted, extra, is_under_way, is_flight, is_retired_of, generation_of, readers}
use Rattle.lb_rebuild_core.proofs.Pasts.{UnderWayFits, under-way-fits, cancelled-past, past-same, past-other}
use Rattle.lb_world.specs.Steps.{Step}
use Rattle.lb_world.specs.Steps as step
use Rattle.lb_world.specs.declared.answer.Answer.{Answer}
use Rattle.lb_world.specs.declared.answer.Answer.TheVariants as answer
use Rattle.lb_world.specs.Meanings.{Meaning}
use Rattle.lb_world.specs.History.{History, Entered, Work, idle, building, built, is_held, ended, is_at, reads, members_in, group_in}
use Rattle.lb_world.specs.History.{slot_in, config, entries, group_at, works_at, worked, work, slot_events, past}
use Rattle.lb_world.specs.Answers.{IsRun}
use Rattle.lb_world.proofs.Placing.{Fits, AllFit, spread, placed, happens, idles, beside, here}
use Rattle.lb_world.proofs.Accepted.{granting, failing, building-done, ordered-failure, losing, publishing, retiring, abandoning, leaving}
use Rattle.lb_world.proofs.Accepted.{destroying, updating}
use Rattle.lb_world.proofs.Readers.{counts, count_set}
use Rattle.lb_world.proofs.Own.{drew, happened, own_after, own-step}

-- what flies is of the last job
flies : (s g : ℕ) (e : slots.Extra) → is_flight e ≡ true → UnderWayFits s g e → is_under_way g e ≡ true
flies s g slots.nothing up fits = absurd (cc)
flies s g (slots.flight n) up fits = eq-eqb n g fits.0
flies s g (slots.lost n) up fits = absurd (cc)
flies s g (slots.retired n) up fits = absurd (cc)
flies s g (slots.taken_out n) up fits = absurd (cc)

pub flight-under_way : (p : slots.History) → slots.IsPast p → is_flight (extra p) ≡ true → is_under_way (granted p) (extra p) ≡ true
flight-under_way p past up = flies (slots.served p) (granted p) (extra p) up (under-way-fits p past)

grounded : (n g : ℕ) (e : slots.Extra) → is_retired_of n e ≡ true → is_under_way g e ≡ false
grounded n g slots.nothing h = absurd (cc)
grounded n g (slots.flight m) h = absurd (cc)
grounded n g (slots.lost m) h = absurd (cc)
grounded n g (slots.retired m) h = refl
grounded n g (slots.taken_out m) h = absurd (cc)

-- the same is held where something was held
rebuilt : (b : Bool) (p : slots.History) (w v : Work) → Fits p w → (b ≡ true → is_held w ≡ is_held v) → Fits p (cond b v w)
rebuilt true p w v fits alike = (fits.0, fits.1 ∙ alike refl)
rebuilt false p w v fits alike = fits

counted-one : (c d : ℕ) → d + 1 ≡ c + 0 → 0 < c
counted-one c d e = omega arith

same-if : {A : Type 0} {x y : A} (b : Bool) → x ≡ y → cond b x y ≡ y
same-if true e = e
same-if false e = refl

module _ {C : Type 0} where
  abbrev pub Pasts : History C → ℕ → slots.History
  Pasts h i = slot_events i h

  abbrev pub Works : History C → ℕ → ℕ → Work
  Works h i r = work i r h

  quiet : (h : History C) (st : Step C) (a : Answer) → AllFit (Pasts h) (Works h)
      → ((i : ℕ) → happened h (slot_events i h) st a ≡ []) → ((w : Work) → worked st a w ≡ w)
      → (i r : ℕ) → Fits (past_of r (own_after i h st a)) (work i r ((st, a) ∷ h))
  quiet h st a all none kept =
      idles (Pasts h) (Works h) (λ i r. work i r ((st, a) ∷ h)) (λ i. is_at i (group_at h st))
      (λ i. happened h (slot_events i h) st a ++ slot_events i h) all
      (λ i. ap (λ (es : slots.History). es ++ slot_events i h) (none i))
      (λ i r. same-if (works_at i r st) (kept (work i r h)))

  -- what is held of a slot's job moves with an event there
  moves : (h : History C) (e : ℕ → slots.SlotEvent) (g s : ℕ) (w : Work) → AllFit (Pasts h) (Works h)
      → slots.MayHappen (past g s h) (e g) → is_under_way (granted (At s (e g) ∷ past g s h)) (extra (At s (e g) ∷ past g s h)) ≡ is_held w
      → (i r : ℕ) → Fits (past_of r (cond (g == i) (At s (e i) ∷ slot_events i h) (slot_events i h)))
      (cond (g == i && s == r) w (work i r h))
  moves h e g s w all may held =
      happens (Pasts h) (Works h) (λ i r. cond (g == i && s == r) w (work i r h)) e g s all may
      (held ∙ sym (ap (λ (b : Bool). is_held (cond b w (work g s h))) (here g s)))
      (λ i r off. ap (λ (b : Bool). cond b w (work i r h)) (beside g s i r off))

  -- an event that leaves it
  stays : (h : History C) (e : slots.SlotEvent) (g s : ℕ) → AllFit (Pasts h) (Works h)
      → slots.MayHappen (past g s h) e
      → is_under_way (granted (At s e ∷ past g s h)) (extra (At s e ∷ past g s h)) ≡ is_under_way (granted (past g s h))
      (extra (past g s h))
      → (i r : ℕ) → Fits (past_of r (cond (g == i) (At s e ∷ slot_events i h) (slot_events i h))) (work i r h)
  stays h e g s all may held = happens (Pasts h) (Works h) (Works h) (λ i. e) g s all may (held ∙ (all g s).1) (λ i r off. refl)

  drawing : (h : History C) (g s t : ℕ) (o : Option C) → AllFit (Pasts h) (Works h)
      → (i r : ℕ) → Fits (past_of r (cond (g == i) (drew o s t ++ slot_events i h) (slot_events i h))) (work i r h)
  drawing h g s t None all = idles (Pasts h) (Works h) (Works h) (λ i. g == i) (Pasts h) all (λ i. refl) (λ i r. refl)
  drawing h g s t (Some c) all = stays h (slots.Drew t) g s all tt refl

module _ {C : Type 0} (M : Meaning C) where
  -- a job that is held is in flight or lost
  pub under_way : (h : History C) (g s : ℕ) (w : Work) → AllFit (Pasts h) (Works h) → work g s h ≡ w → is_held w ≡ true
      → is_under_way (granted (past g s h)) (extra (past g s h)) ≡ true
  under_way h g s w all is held = (all g s).1 ∙ ap is_held is ∙ held

  -- what leaves was in
  pub reading : (h : History C) → IsRun M h → (t m : ℕ) (e : Entered) → slice_get (entries h) t ≡ Some (Some e) → e.generation ≡ m
      → 0 < readers m (past e.group e.slot h)
  reading h run t m e there of =
      let one : count_by (reads e.group e.slot m) (slice_set (entries h) t None) + 1 ≡ count_by (reads e.group e.slot m) (entries h) + 0 =
      rw (eq-eqb e.group e.group refl, eq-eqb e.slot e.slot refl, eq-eqb e.generation m of) at
      (count_set (reads e.group e.slot m) (entries h) t (Some e) None there) in
      subst (λ (c : ℕ). 0 < c) (sym (counts M h run e.group e.slot m))
      (counted-one (count_by (reads e.group e.slot m) (entries h)) (count_by (reads e.group e.slot m) (slice_set (entries h) t None)) one)

  leaves : (h : History C) → IsRun M h → (t m : ℕ) (e : Entered) → slice_get (entries h) t ≡ Some (Some e) → e.generation ≡ m
      → AllFit (Pasts h) (Works h) → (i r : ℕ)
      → Fits (past_of r (cond (is_at i (group_in (slice_get (entries h) t)))
      (At (slot_in (slice_get (entries h) t)) (slots.Left m) ∷ slot_events i h) (slot_events i h))) (work i r h)
  leaves h run t m e there of all i r =
      subst
      (λ (o : Option (Option Entered)).
      Fits (past_of r (cond (is_at i (group_in o)) (At (slot_in o) (slots.Left m) ∷ slot_events i h) (slot_events i h))) (work i r h))
      (sym there) (stays h (slots.Left m) e.group e.slot all (reading h run t m e there of) refl i r)

  fit-step : (h : History C) (st : Step C) (a : Answer) → IsRun M ((st, a) ∷ h) → AllFit (Pasts h) (Works h)
      → (i r : ℕ) → Fits (past_of r (own_after i h st a)) (work i r ((st, a) ∷ h))
  fit-step h (step.update g now ls) (answer.Generation n) run all i r =
      let goes = (updating M h g now ls n run.1).1 in
      spread (Pasts h) (λ i. slots.Scheduled (members_in ls) now ∷ slot_events i h) (Works h) (Works h) g all
      (λ r. (((all g r).0, cancelled-past r (slot_events g h) ∙ goes), (all g r).1)) (λ i r off. refl) i r
  fit-step h (step.ask g s now) (answer.Build n) run all i r =
      moves h (λ i. slots.Granted now) g s building all (granting M h g s now n run.1).may
      (eq-eqb (slots.newest (past g s h)) (slots.newest (past g s h)) refl) i r
  fit-step h (step.build g s now) (answer.BuildFailed n e) run all i r =
      moves h (λ i. slots.Failed now (slots.granted_members (past i s h))) g s idle all
      (under_way h g s building all (failing M h g s now n e run.1) refl) refl i r
  fit-step h (step.build g s now) (answer.Built n) run all i r =
      let was = building-done M h g s now n run.1 in
      let before = idles (Pasts h) (Works h) (Works h) (λ j. g == j) (Pasts h) all (λ j. refl) (λ j q. refl) i r in
      rebuilt (g == i && s == r) (past_of r (cond (g == i) (slot_events i h) (slot_events i h))) (work i r h) (built now) before
      (λ at.
      let parts = and_parts (g == i) (s == r) at in
      subst (λ (j : ℕ). is_held (work j r h) ≡ true) (eqb-true g i parts.0)
      (subst (λ (q : ℕ). is_held (work g q h) ≡ true) (eqb-true s r parts.1) (ap is_held was)))
  fit-step h (step.failbuild g s now) (answer.Failed n) run all i r =
      moves h (λ i. slots.Failed now (slots.granted_members (past i s h))) g s idle all
      (under_way h g s building all (ordered-failure M h g s now n run.1) refl) refl i r
  fit-step h (step.lost g s) (answer.Lost n) run all i r =
      let up = losing M h g s n run.1 in
      stays h slots.WorkerLost g s all up
      (eq-eqb (granted (past g s h)) (granted (past g s h)) refl ∙ sym (flight-under_way (past g s h) (all g s).0 up)) i r
  fit-step h (step.publish g s) (answer.Published n) run all i r =
      let parts = and_parts (is_flight (extra (past g s h))) (not (slots.is_cancelled (slot_events g h)))
      (publishing M h g s n run.1).1.1 in
      moves h (λ i. slots.Published (ended (work g s h)) (slots.granted_members (past i s h))) g s idle all
      (parts.0, cancelled-past s (slot_events g h) ∙ not-true (slots.is_cancelled (slot_events g h)) parts.1) refl i r
  fit-step h (step.publish g s) (answer.Abandoned n) run all i r =
      let b = retiring M h g s n run.1 in
      moves h (λ i. slots.Abandoned (slots.granted_members (past i s h))) g s idle all (under_way h g s (built b.0) all b.1 refl) refl i r
  fit-step h (step.abandon g s) (answer.Abandoned n) run all i r =
      let b = abandoning M h g s n run.1 in
      moves h (λ i. slots.Abandoned (slots.granted_members (past i s h))) g s idle all (under_way h g s (built b.0) all b.1 refl) refl i r
  fit-step h (step.enter g s) (answer.Reader t n) run all i r = stays h slots.Entered g s all tt refl i r
  fit-step h (step.leave t) (answer.Left n) run all i r =
      let l = leaving M h t n run.1 in
      leaves h run.0 t n l.0 l.1.0 l.1.1 all i r
  fit-step h (step.destroy g s) answer.Destroyed run all i r =
      let d = destroying M h g s run.1 in
      let p : slots.History = past g s h in
      placed (Pasts h) (λ i. At s slots.Destroyed ∷ At s slots.TakenOut ∷ slot_events i h) (Works h) (Works h) g s all
      (subst (λ (q : slots.History). Fits q (work g s h))
      (sym (past-same s slots.Destroyed (At s slots.TakenOut ∷ slot_events g h)
      ∙ ap (λ (q : slots.History). At s slots.Destroyed ∷ q) (past-same s slots.TakenOut (slot_events g h))))
      ((((all g s).0, d), refl), sym (grounded (generation_of (extra p)) (granted p) (extra p) d.0) ∙ (all g s).1))
      (λ r off.
      past-other r s slots.Destroyed (At s slots.TakenOut ∷ slot_events g h) (λ e. off (sym e))
      ∙ past-other r s slots.TakenOut (slot_events g h) (λ e. off (sym e)))
      (λ i r off. refl) i r
  fit-step h (step.select g s key limit words) (answer.Backend b t) run all i r = drawing h g s t (config g s h) all i r
  fit-step h (step.select g s key limit words) (answer.NoBackend t) run all i r = drawing h g s t (config g s h) all i r
  fit-step h (step.select g s key limit words) (answer.NotSelected t) run all i r = drawing h g s t (config g s h) all i r
  fit-step h (step.cancel g) answer.Cancelled run all i r =
      spread (Pasts h) (λ i. slots.Cancelled ∷ slot_events i h) (Works h) (Works h) g all (λ r. all g r) (λ i r off. refl) i r
  fit-step h st a run all i r = quiet h st a all (λ i. refl) (λ w. refl) i r

  pub slots-fit : (h : History C) → IsRun M h → (i r : ℕ) → Fits (past i r h) (work i r h)
  slots-fit [] run i r = (tt, refl)
  slots-fit ((st, a) ∷ h) run i r =
      subst (λ (k : slots.History). Fits (past_of r k) (work i r ((st, a) ∷ h))) (sym (own-step i h st a))
      (fit-step h st a run (slots-fit h run.0) i r)
