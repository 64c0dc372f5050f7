-- What the plain group's calls give out is its own, and stays its own.
use Rattle.std.specs.Prelude.{◌≡◌, ◌+◌, ℕ, Bool, true, false, nat_lt, cond, ◌∷◌, length, Option, Some, None, Result, Ok, Err, IfOk, refl}
use Rattle.std.proofs.Common.{sym, subst, arith}
use Rattle.std.proofs.lemmas.Bool.{lt-ltb, eq-eqb}
use Rattle.lb_select_base.specs.declared.refusal.Refusal.{Refusal}
use Rattle.lb_rebuild_core.specs.SlotsCalls.{IsOwnJob, IsJob, Asks, ask_events, is_awaited, is_read, Enters, done_at}
use Rattle.lb_rebuild_core.specs.SlotsHistory as core
use Rattle.lb_rebuild_core.specs.SlotsHistory.{At, Granted, Entered, past_of, newest, served, readers}
use Rattle.lb_rebuild_core.specs.Stands.{Made}
use Rattle.lb_rebuild_core.specs.Values.{Task, ReaderValue}
use Rattle.lb_rebuild_core.specs.declared.answers.Ask.{Ask}
use Rattle.lb_rebuild_core.specs.declared.answers.Ask.TheVariants as asked
use Rattle.lb_rebuild_core.proofs.Pasts.{past-same, newest-past}
use Rattle.lb_rebuild_core.specs.GroupHistory.{History, slot_events, in_group}
use Rattle.lb_rebuild_core.specs.GroupStates.{GroupValue, Stands, After, Becomes}
use Rattle.lb_balancer_core.specs.Calls.{IfJob}
use Rattle.lb_balancer_core.specs.Plain.{OwnsJob, OwnsReader}

-- what is there is not refused
there-if : {A : Type 0} (b : Bool) (x : Option A) (e : A) → cond b x (Some e) ≡ None → b ≡ true
there-if true x e is = refl
there-if false x e is = absurd (cc)

module _ {C : Type 0} where
  awaited-granted : (made : Made C) (h : core.History) (slot now : ℕ) (j : Task C) → IsJob made h slot j
      → is_awaited j.slot j.generation (At slot (Granted now) ∷ h) ≡ true
  awaited-granted made h slot now j is =
      let here : is_awaited slot (newest h) (At slot (Granted now) ∷ h) ≡ true = rw (past-same slot (Granted now) h)
      (eq-eqb _ _ (newest-past slot h)) in
      subst (λ (s : ℕ). is_awaited s j.generation (At slot (Granted now) ∷ h) ≡ true) (sym is.place)
      (subst (λ (g : ℕ). is_awaited slot g (At slot (Granted now) ∷ h) ≡ true) (sym is.generation) here)

  -- a reader that has entered is counted
  read-entered : (made : Made C) (h : core.History) (slot : ℕ) (r : ReaderValue C)
      → (let a : Result (ReaderValue C) Refusal = Ok r in Enters made h slot a)
      → is_read made r.slot r.generation (At slot Entered ∷ h) ≡ true
  read-entered made h slot r is =
      let there : nat_lt slot (length made.configs) ≡ true = there-if _ _ _ is.0 in
      let one : readers (served (past_of slot h)) (At slot Entered ∷ past_of slot h) ≡ readers (served (past_of slot h))
      (past_of slot h) + 1 =
      rw (eq-eqb (served (past_of slot h)) (served (past_of slot h)) refl) refl in
      let some : nat_lt 0 (readers (served (past_of slot h)) (At slot Entered ∷ past_of slot h)) ≡ true = lt-ltb _ _ (omega (arith, one)) in
      let here : is_read made slot (served (past_of slot h)) (At slot Entered ∷ h) ≡ true = rw (past-same slot Entered h, there) some in
      subst (λ (s : ℕ). is_read made s r.generation (At slot Entered ∷ h) ≡ true) (sym is.1)
      (subst (λ (g : ℕ). is_read made slot g (At slot Entered ∷ h) ≡ true) (sym is.2) here)

  -- some history of a group
  abbrev pub Past : GroupValue C → Type 0
  Past v = (made : Made C) × ((e : History) × Stands made e v)

  pub enters_own : (v w : GroupValue C) (slot : ℕ) (a : Result (ReaderValue C) Refusal) → Past v
      → After v (λ made e. Enters made (slot_events e) slot a) → Becomes v (in_group (done_at slot Entered a)) w
      → IfOk a (λ r. r.group ≡ w.group.id) → IfOk a (λ r. OwnsReader w r)
  enters_own v w slot (Err e) past answers stands own = tt
  enters_own v w slot (Ok r) (made, (e, s)) answers stands own =
      (own, (made, (_, (stands made e s, read-entered made (slot_events e) slot r (answers made e s)))))

module _ {S C W : Type 0} where
  pub asks_own : (v w : GroupValue C) (slot now : ℕ) (out : Bool) (a : Result (Ask S C W) Refusal) → Past v
      → After v (λ m f. Asks m (slot_events f) slot out now a) → Becomes v (in_group (ask_events slot now a)) w
      → IfOk a (λ b. IsOwnJob w.group b) → IfJob a (λ j. OwnsJob w j)
  asks_own v w slot now out (Err r) past answers stands own = tt
  asks_own v w slot now out (Ok asked.Cancelled) past answers stands own = tt
  asks_own v w slot now out (Ok asked.Building) past answers stands own = tt
  asks_own v w slot now out (Ok asked.Nothing) past answers stands own = tt
  asks_own v w slot now out (Ok (asked.NotDue m)) past answers stands own = tt
  asks_own v w slot now out (Ok asked.Busy) past answers stands own = tt
  asks_own v w slot now out (Ok (asked.Job j)) (made, (e, s)) answers stands own =
      (own.0, own.1, own.2, (made, (_, (stands made e s, awaited-granted made (slot_events e) slot now j (answers made e s).2))))
