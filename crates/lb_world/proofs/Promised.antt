-- The promises, each by the law of the crate of groups at a slot's past.
use Rattle.std.proofs.Common.{◌≡◌, inl, inr, not, ◌<◌, ◌≤◌, ◌==◌, ◌∙◌, ℕ, Bool, true, false, cond, [], ◌∷◌, ◌++◌, refl, sym, ap, subst}
use Rattle.std.proofs.Common.{arith}
use Rattle.std.specs.Prelude.{Option, Some, None, slice_get}
use Rattle.std.specs.Option.{option_map}
use Rattle.std.proofs.lemmas.Bool.{false_from_ne_true, false≢true}
use mathlib.Core.Logic.{dite}
use native.Mathlib.Decide.{ℕ_discrete}
use Rattle.lb_rebuild_core.specs.SlotsHistory as slots
use Rattle.lb_rebuild_core.specs.SlotsHistory.{SlotsEvent, SlotEvent, Scheduled, Cancelled, At, past_of, served, newest, extra, is_extra}
use Rattle.lb_rebuild_core.specs.SlotsHistory.{IsFaithful}
use Rattle.lb_rebuild_core.specs.Laws.{number}
use Rattle.lb_rebuild_core.proofs.Pasts.{newest-past, cancelled-past}
use Rattle.lb_rebuild_core.proofs.Ledger.{balanced}
use Rattle.lb_rebuild_core.proofs.Telling.{bounded, rises, serves-newest, gets-job, has-members}
use Rattle.lb_world.specs.Steps.{Step}
use Rattle.lb_world.specs.Steps as step
use Rattle.lb_world.specs.declared.answer.Answer.{Answer}
use Rattle.lb_world.specs.declared.answer.Answer.TheVariants as answer
use Rattle.lb_world.specs.Meanings.{Meaning}
use Rattle.lb_world.specs.History.{History, Entered, is_at, members_in, group_in, slot_in, config, gate_at, slot_gate, entries}
use Rattle.lb_world.specs.History.{group_at, work, ended, slot_events, past, extras, is_free, is_out}
use Rattle.lb_world.specs.Answers.{IsRun, without_memory}
use Rattle.lb_world.specs.Promises.{FreeGatesGrant, NeverFalls, Ledger, NewestServed, MembersKept, Bounded}
use Rattle.lb_world.proofs.Placing.{off-past, on-past, off-both, on-both, same-either}
use Rattle.lb_world.proofs.Runs.{slots-fit, Pasts}
use Rattle.lb_world.proofs.Accepted.{right_answer}
use Rattle.lb_world.proofs.Counting.{permits-out}
use Rattle.lb_world.proofs.Extras.{extras-out}
use Rattle.lb_world.proofs.Own.{drew, happened, own_after, own-step}

none-out : (o : Bool) (x : ℕ) → x ≡ number o → x ≡ 0 → o ≡ false
none-out true x e z = absurd (omega arith)
none-out false x e z = refl

-- what is served never falls with an event that can come
earlier-past : (e : SlotsEvent) (p : slots.History) → slots.IsPast (e ∷ p) → slots.IsPast p
earlier-past (Scheduled ms now) p past = past.0
earlier-past Cancelled p past = past
earlier-past (At i e) p past = past.0

no-less : (e : SlotsEvent) (p : slots.History) → slots.IsPast (e ∷ p) → served p ≤ served (e ∷ p)
no-less (At i (slots.Published ended ms)) p past = let up : served p < served (At i (slots.Published ended ms) ∷ p) =
    rises (At i (slots.Published ended ms)) p past in omega arith
no-less e p past = omega arith

reached : (b : Bool) (e : SlotsEvent) (p : slots.History) → slots.IsPast (cond b (e ∷ p) p) → (slots.IsPast p)
    × (served p ≤ served (cond b (e ∷ p) p))
reached true e p past = (earlier-past e p past, no-less e p past)
reached false e p past = (past, omega arith)

no-less-all : (r : ℕ) (es k : slots.History) → slots.IsPast (past_of r (es ++ k)) → served (past_of r k) ≤ served (past_of r (es ++ k))
no-less-all r [] k past = omega arith
no-less-all r (e ∷ es) k past =
    let one = reached (slots.reaches r e) e (past_of r (es ++ k)) past in
    omega (arith, one.1, no-less-all r es k one.0)

no-less-group : (b : Bool) (r : ℕ) (es k : slots.History) → slots.IsPast (past_of r (cond b (es ++ k) k))
    → served (past_of r k) ≤ served (past_of r (cond b (es ++ k) k))
no-less-group true r es k past = no-less-all r es k past
no-less-group false r es k past = omega arith

-- faithful pasts
abbrev AllFaithful : (ℕ → slots.History) → Type 0
AllFaithful K = (i r : ℕ) → IsFaithful (past_of r (K i))

at-place : (K : ℕ → slots.History) (e : ℕ → SlotEvent) (g s : ℕ) → AllFaithful K → IsFaithful (At s (e g) ∷ past_of s (K g))
    → (i r : ℕ) → IsFaithful (past_of r (cond (g == i) (At s (e i) ∷ K i) (K i)))
at-place K e g s all own i r =
    dite (ℕ_discrete i g)
    (λ at.
    dite (ℕ_discrete r s)
    (λ on.
    subst (λ (j : ℕ). IsFaithful (past_of r (cond (g == j) (At s (e j) ∷ K j) (K j)))) (sym at)
    (subst (λ (q : ℕ). IsFaithful (past_of q (cond (g == g) (At s (e g) ∷ K g) (K g)))) (sym on)
    (subst IsFaithful (sym (on-past K e g s)) own)))
    (λ off. subst IsFaithful (sym (off-past K e g s i r (λ t. off t.1))) (all i r)))
    (λ off. subst IsFaithful (sym (off-past K e g s i r (λ t. off t.0))) (all i r))

in-group : (K : ℕ → slots.History) (e : SlotsEvent) (b : ℕ → Bool) → AllFaithful K
    → ((r : ℕ) (k : slots.History) → IsFaithful (past_of r k) → IsFaithful (past_of r (e ∷ k)))
    → (i r : ℕ) → IsFaithful (past_of r (cond (b i) (e ∷ K i) (K i)))
in-group K e b all keeps i r = either (b i)
  where
    either : (t : Bool) → IsFaithful (past_of r (cond t (e ∷ K i) (K i)))
    either true = keeps r (K i) (all i r)
    either false = all i r

in-none : (K N : ℕ → slots.History) (b : ℕ → Bool) → AllFaithful K → ((i : ℕ) → N i ≡ K i) → (i r : ℕ)
    → IsFaithful (past_of r (cond (b i) (N i) (K i)))
in-none K N b all none i r =
    subst (λ (k : slots.History). IsFaithful (past_of r k)) (sym (ap (λ (x : slots.History). cond (b i) x (K i)) (none i)
    ∙ same-either (b i) (K i))) (all i r)

module _ {C : Type 0} where
  drawing : (h : History C) (g s t : ℕ) (o : Option C) → AllFaithful (Pasts h)
      → (i r : ℕ) → IsFaithful (past_of r (cond (g == i) (drew o s t ++ slot_events i h) (slot_events i h)))
  drawing h g s t None all = in-none (Pasts h) (Pasts h) (λ i. g == i) all (λ i. refl)
  drawing h g s t (Some c) all = at-place (Pasts h) (λ i. slots.Drew t) g s all (all g s)

  leaving-o : (h : History C) (n : ℕ) (o : Option (Option Entered)) → AllFaithful (Pasts h)
      → (i r : ℕ) → IsFaithful (past_of r (cond (is_at i (group_in o)) (At (slot_in o) (slots.Left n) ∷ slot_events i h) (slot_events i h)))
  leaving-o h n None all = all
  leaving-o h n (Some None) all = all
  leaving-o h n (Some (Some e)) all = at-place (Pasts h) (λ i. slots.Left n) e.group e.slot all (all e.group e.slot)

  -- what came back had the members of its job
  faithful-step : (h : History C) (st : Step C) (a : Answer) → AllFaithful (Pasts h)
      → (i r : ℕ) → IsFaithful (past_of r (own_after i h st a))
  faithful-step h (step.update g now ls) (answer.Generation n) all i r =
      in-group (Pasts h) (Scheduled (members_in ls) now) (λ j. g == j) all (λ q k f. f) i r
  faithful-step h (step.ask g s now) (answer.Build n) all i r = at-place (Pasts h) (λ j. slots.Granted now) g s all (all g s) i r
  faithful-step h (step.build g s now) (answer.BuildFailed n e) all i r =
      at-place (Pasts h) (λ j. slots.Failed now (slots.granted_members (past j s h))) g s all (all g s, refl) i r
  faithful-step h (step.failbuild g s now) (answer.Failed n) all i r =
      at-place (Pasts h) (λ j. slots.Failed now (slots.granted_members (past j s h))) g s all (all g s, refl) i r
  faithful-step h (step.lost g s) (answer.Lost n) all i r = at-place (Pasts h) (λ j. slots.WorkerLost) g s all (all g s) i r
  faithful-step h (step.publish g s) (answer.Published n) all i r =
      at-place (Pasts h) (λ j. slots.Published (ended (work g s h)) (slots.granted_members (past j s h))) g s all (
        all g s,
        refl,
      ) i r
  faithful-step h (step.publish g s) (answer.Abandoned n) all i r =
      at-place (Pasts h) (λ j. slots.Abandoned (slots.granted_members (past j s h))) g s all (all g s, refl) i r
  faithful-step h (step.abandon g s) (answer.Abandoned n) all i r =
      at-place (Pasts h) (λ j. slots.Abandoned (slots.granted_members (past j s h))) g s all (all g s, refl) i r
  faithful-step h (step.enter g s) (answer.Reader t n) all i r = at-place (Pasts h) (λ j. slots.Entered) g s all (all g s) i r
  faithful-step h (step.leave t) (answer.Left n) all i r = leaving-o h n (slice_get (entries h) t) all i r
  faithful-step h (step.destroy g s) answer.Destroyed all i r =
      dite (ℕ_discrete i g)
      (λ at.
      dite (ℕ_discrete r s)
      (λ on.
      subst (λ (j : ℕ). IsFaithful (past_of r (own_after j h (step.destroy g s) answer.Destroyed))) (sym at)
      (subst (λ (q : ℕ). IsFaithful (past_of q (own_after g h (step.destroy g s) answer.Destroyed))) (sym on)
      (subst IsFaithful (sym (on-both (Pasts h) slots.Destroyed slots.TakenOut g s)) (all g s))))
      (λ off. subst IsFaithful (sym (off-both (Pasts h) slots.Destroyed slots.TakenOut g s i r (λ t. off t.1))) (all i r)))
      (λ off. subst IsFaithful (sym (off-both (Pasts h) slots.Destroyed slots.TakenOut g s i r (λ t. off t.0))) (all i r))
  faithful-step h (step.select g s key limit words) (answer.Backend b t) all i r = drawing h g s t (config g s h) all i r
  faithful-step h (step.select g s key limit words) (answer.NoBackend t) all i r = drawing h g s t (config g s h) all i r
  faithful-step h (step.select g s key limit words) (answer.NotSelected t) all i r = drawing h g s t (config g s h) all i r
  faithful-step h (step.cancel g) answer.Cancelled all i r = in-group (Pasts h) Cancelled (λ j. g == j) all (λ q k f. f) i r
  faithful-step h st a all i r =
      in-none (Pasts h) (λ j. happened h (slot_events j h) st a ++ slot_events j h) (λ j. is_at j (group_at h st)) all
      (λ j. refl) i r

  -- in every history
  pub faithful : (h : History C) → (i r : ℕ) → IsFaithful (past i r h)
  faithful [] i r = tt
  faithful ((st, a) ∷ h) i r =
      subst (λ (k : slots.History). IsFaithful (past_of r k)) (sym (own-step i h st a)) (faithful-step h st a (faithful h) i r)

module _ {C : Type 0} (M : Meaning C) where
  -- the asked slot has no extra, since its gate has none
  granted-due : (h : History C) (g s now : ℕ) (a : Answer) → IsRun M ((step.ask g s now, a) ∷ h) → FreeGatesGrant h (step.ask g s now) a
  granted-due h g s now a run m c made_is config_is goes waiting due free =
      let on : slot_gate g s h ≡ Some m.gate = ap (gate_at s) made_is ∙ ap (option_map (λ (x : C). m.gate)) config_is in
      let in_ : is_out m.gate h ≡ false = none-out (is_out m.gate h) (extras m.gate h) (extras-out M h run.0 m.gate) free in
      let bare : is_extra (extra (past g s h)) ≡ false =
      false_from_ne_true (is_extra (extra (past g s h))) (λ t. false≢true (sym in_ ∙ (permits-out M h run.0).out m.gate g s on t)) in
      let job : slots.ask_answer (past g s h) (not (is_free m.gate h)) now ≡ slots.job =
      ap (λ (n : ℕ). slots.ask_answer (past g s h) (not (n == 0)) now) free
      ∙ gets-job (past g s h) now (cancelled-past s (slot_events g h) ∙ goes) waiting due bare in
      let told : right_answer M h (step.ask g s now) ≡ answer.Build (newest (slot_events g h)) = rw (made_is, config_is, job) refl in
      elim run.1 [
        | inl is ↦ is ∙ told
        | inr is ↦ is ∙ ap (without_memory {C = C} (step.ask g s now)) told
      ]

  pub free-gates-grant : (h : History C) (st : Step C) (a : Answer) → IsRun M ((st, a) ∷ h) → FreeGatesGrant h st a
  free-gates-grant h (step.ask g s now) a run = granted-due h g s now a run
  free-gates-grant h st a run = tt

  pub never-falls : (h : History C) (st : Step C) (a : Answer) → IsRun M ((st, a) ∷ h) → NeverFalls h st a
  never-falls h st a run g s =
      subst (λ (k : slots.History). served (past g s h) ≤ served (past_of s k)) (sym (own-step g h st a))
      (no-less-group (is_at g (group_at h st)) s (happened h (slot_events g h) st a) (slot_events g h)
      (subst (λ (k : slots.History). slots.IsPast (past_of s k)) (own-step g h st a) (slots-fit M ((st, a) ∷ h) run g s).0))

  pub ledger : (h : History C) → IsRun M h → Ledger h
  ledger h run =
      record { balanced = λ g s. balanced (past g s h) (slots-fit M h run g s).0; of_group = λ g s. newest-past s (slot_events g h) }

module _ {C : Type 0} (h : History C) where
  pub newest-served : NewestServed h
  newest-served g s down quiet = serves-newest (past g s h) down quiet ∙ newest-past s (slot_events g h)

  pub members-kept : MembersKept h
  members-kept g s = has-members (past g s h) (faithful h g s)

  pub within : Bounded h
  within g s = subst (λ (n : ℕ). served (past g s h) ≤ n) (newest-past s (slot_events g h)) (bounded (past g s h))
