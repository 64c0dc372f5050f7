-- What an answer that is no refusal says of the history before it, one kind of step at a time.
use Rattle.std.proofs.Common.{◌≡◌, ◌⊎◌, inl, inr, ◌+◌, ◌==◌, ◌&&◌, ◌||◌, ◌∙◌, ℕ, Bool, true, false, not, cond, nat_lt, List, refl, sym, ap}
use Rattle.std.proofs.Common.{if◌then◌else◌, length}
use Rattle.std.specs.Prelude.{Option, Some, None, slice_get}
use Rattle.std.proofs.lemmas.Bool.{eqb-true, eq-eqb}
use Rattle.lb_select_base.specs.Refusals.{earlier, refusal_number}
use Rattle.lb_select_base.specs.declared.refusal.Refusal.{Refusal}
use Rattle.lb_select_base.specs.declared.refusal.Refusal.TheVariants as refusal
use Rattle.lb_rebuild_core.specs.SlotsHistory as slots
use Rattle.lb_rebuild_core.specs.SlotsCalls.{is_change, schedule_refusal, is_served}
use Rattle.lb_rebuild_core.specs.SlotCalls.{take_refusal}
use Rattle.lb_rebuild_core.specs.Stands.{left_readers}
use Rattle.lb_rebuild_core.proofs.Telling.{tells}
use Rattle.lb_world.specs.Steps.{Step}
use Rattle.lb_world.specs.declared.step.Listing.{Listing}
use Rattle.lb_world.specs.Steps as step
use Rattle.lb_world.specs.declared.answer.Answer.{Answer}
use Rattle.lb_world.specs.declared.answer.Answer.TheVariants as answer
use Rattle.lb_world.specs.Meanings.{Meaning}
use Rattle.lb_world.specs.History.{History, Made, Entered, Work, idle, building, built, members_in, made_at, config, entries, work}
use Rattle.lb_world.specs.History.{slot_events, past, is_free}
use Rattle.lb_world.specs.Answers.{Answers, answer_after, without_memory, refuse, unless_refused, at_one, of_job, of_built, built_or_failed}
use Rattle.lb_world.specs.Answers.{asked, update_answer, lost_answer, flight_of, leave_answer, destroy_refusal, has_refused}

-- the answer that is right where memory is at hand, of a step whose answer is a function of the history
abbrev pub given_answer : Option Answer → Answer
given_answer None = answer.Done
given_answer (Some a) = a

abbrev pub right_answer : {C : Type 0} → Meaning C → History C → Step C → Answer
right_answer M h st = given_answer (answer_after M h st)

-- an answer that is the right one itself: no refusal, and no failure that may come in place of a build
abbrev pub is_lasting : Answer → Bool
is_lasting (answer.Refused r) = false
is_lasting (answer.BuildFailed n r) = false
is_lasting a = true

false-true : false ≡ true → ⊥
false-true e = absurd (cc)

module _ {C : Type 0} where
  -- nothing lasting comes in the place of another answer
  lasting : (st : Step C) (x a : Answer) → a ≡ without_memory st x → is_lasting a ≡ true → x ≡ a
  lasting st (answer.Registry n) a e l = absurd (false-true (ap is_lasting (sym e) ∙ l))
  lasting st (answer.Gate n) a e l = absurd (false-true (ap is_lasting (sym e) ∙ l))
  lasting st (answer.Group n) a e l = absurd (false-true (ap is_lasting (sym e) ∙ l))
  lasting st (answer.Generation n) a e l = absurd (false-true (ap is_lasting (sym e) ∙ l))
  lasting st (answer.Same n) a e l = absurd (false-true (ap is_lasting (sym e) ∙ l))
  lasting st (answer.Built n) a e l = absurd (false-true (ap is_lasting (sym e) ∙ l))
  lasting st (answer.Reader t n) a e l = absurd (false-true (ap is_lasting (sym e) ∙ l))
  lasting st (answer.Targets ts) a e l = absurd (false-true (ap is_lasting (sym e) ∙ l))
  lasting (step.load g b load) answer.Done a e l = absurd (false-true (ap is_lasting (sym e) ∙ l))
  lasting st x a e l = sym e

  pub right-is : (st : Step C) (x a : Answer) → (a ≡ x) ⊎ (a ≡ without_memory st x) → is_lasting a ≡ true → x ≡ a
  right-is st x a right l = elim right [ inl e ↦ sym e | inr e ↦ lasting st x a e l ]

-- what is there where an answer is no refusal
pub there : {A : Type 0} (o : Option A) (f : A → Answer) (a : Answer) → at_one o f ≡ a → is_lasting a ≡ true → (x : A)
    × ((o ≡ Some x) × (f x ≡ a))
there None f a e l = absurd (false-true (ap is_lasting e ∙ l))
there (Some x) f a e l = (x, (refl, e))

pub unrefused : (o : Option Refusal) (x a : Answer) → unless_refused o x ≡ a → is_lasting a ≡ true → (o ≡ None) × (x ≡ a)
unrefused None x a e l = (refl, e)
unrefused (Some r) x a e l = absurd (false-true (ap is_lasting e ∙ l))

pub job-there : (w : Work) (x a : Answer) → of_job w x ≡ a → is_lasting a ≡ true → (w ≡ building) × (x ≡ a)
job-there idle x a e l = absurd (false-true (ap is_lasting e ∙ l))
job-there building x a e l = (refl, e)
job-there (built n) x a e l = absurd (false-true (ap is_lasting e ∙ l))

pub built-there : (w : Work) (x a : Answer) → of_built w x ≡ a → is_lasting a ≡ true → (m : ℕ) × ((w ≡ built m) × (x ≡ a))
built-there idle x a e l = absurd (false-true (ap is_lasting e ∙ l))
built-there building x a e l = absurd (false-true (ap is_lasting e ∙ l))
built-there (built m) x a e l = (m, (refl, e))

-- a failed build was a job, whether for its cause or for want of memory
abbrev is_failed : Answer → Bool
is_failed (answer.BuildFailed n r) = true
is_failed a = false

failed-job : {C : Type 0} (st : Step C) (w : Work) (g : ℕ) (cause : Option Refusal) (a : Answer) → is_failed a ≡ true
    → (a ≡ of_job w (built_or_failed g cause)) ⊎ (a ≡ without_memory st (of_job w (built_or_failed g cause))) → w ≡ building
failed-job st idle g cause a f right = absurd (false-true (sym (elim right [ inl e ↦ ap is_failed e | inr e ↦ ap is_failed e ]) ∙ f))
failed-job st building g cause a f right = refl
failed-job st (built m) g cause a f right = absurd (false-true (sym (elim right [ inl e ↦ ap is_failed e | inr e ↦ ap is_failed e ]) ∙ f))

-- the answers to an ask
asked-job : (n : ℕ) (t : slots.AskAnswer) (m : ℕ) → asked n t ≡ answer.Build m → (t ≡ slots.job) × (n ≡ m)
asked-job n slots.cancelled m e = absurd (cc)
asked-job n slots.building m e = absurd (cc)
asked-job n slots.up_to_date m e = absurd (cc)
asked-job n (slots.not_due k) m e = absurd (cc)
asked-job n slots.busy m e = absurd (cc)
asked-job n slots.job m e = (refl, cc)

job-free : (ca fl w d out ex : Bool) (m : ℕ)
    → cond ca slots.cancelled
    (cond fl slots.building (cond (not w) slots.up_to_date (cond d (slots.not_due m) (cond (out || ex) slots.busy slots.job)))) ≡
    slots.job
    → out ≡ false
job-free true fl w d out ex m e = absurd (cc)
job-free false true w d out ex m e = absurd (cc)
job-free false false false d out ex m e = absurd (cc)
job-free false false true true out ex m e = absurd (cc)
job-free false false true false true ex m e = absurd (cc)
job-free false false true false false ex m e = refl

pub free-gate : (p : slots.History) (out : Bool) (now : ℕ) → slots.ask_answer p out now ≡ slots.job → out ≡ false
free-gate p out now e =
    job-free (slots.is_cancelled p) (slots.is_flight (slots.extra p)) (slots.waits p) (nat_lt now (slots.due_moment p)) out
    (slots.is_extra (slots.extra p)) (slots.due_moment p) e

no-extra : (e : slots.Extra) → slots.is_extra e ≡ false → e ≡ slots.nothing
no-extra slots.nothing h = refl
no-extra (slots.flight n) h = absurd (cc)
no-extra (slots.lost n) h = absurd (cc)
no-extra (slots.retired n) h = absurd (cc)
no-extra (slots.taken_out n) h = absurd (cc)

-- a job goes out where the slot may have one
pub job-may : (p : slots.History) (out : Bool) (now : ℕ) → slots.ask_answer p out now ≡ slots.job → slots.MayHappen p (slots.Granted now)
job-may p out now e =
    let t = tells p out now in
    let is : slots.waits p ≡ true × slots.is_cancelled p ≡ false × slots.is_extra (slots.extra p) ≡ false = rw e at t in
    (no-extra (slots.extra p) is.2, is.0, is.1)

lost-flight : (e : slots.Extra) (n : ℕ) → lost_answer (flight_of e) ≡ answer.Lost n → slots.is_flight e ≡ true
lost-flight slots.nothing n e = absurd (cc)
lost-flight (slots.flight m) n e = refl
lost-flight (slots.lost m) n e = absurd (cc)
lost-flight (slots.retired m) n e = absurd (cc)
lost-flight (slots.taken_out m) n e = absurd (cc)

-- a retired selector without readers may be taken out
no-readers : (b : Bool) (n : ℕ) → (n == 0) ≡ b → cond b None (Some (refusal.StillRead n)) ≡ None → n ≡ 0
no-readers true n is e = eqb-true n 0 is
no-readers false n is e = absurd (cc)

taken : (e : slots.Extra) (p : slots.History) → take_refusal e (left_readers e p) ≡ None
    → (slots.is_retired_of (slots.generation_of e) e ≡ true) × (slots.readers (slots.generation_of e) p ≡ 0)
taken slots.nothing p e = absurd (cc)
taken (slots.flight m) p e = absurd (cc)
taken (slots.lost m) p e = absurd (cc)
taken (slots.retired m) p e = (eq-eqb m m refl, no-readers (slots.readers m p == 0) (slots.readers m p) refl e)
taken (slots.taken_out m) p e = absurd (cc)

served-told : (b : Bool) (x n : ℕ) → (if b then answer.Published x else answer.Abandoned x) ≡ answer.Published n → b ≡ true
served-told true x n e = refl
served-told false x n e = absurd (cc)

entered-told : (b : Bool) (x y t n : ℕ) → (if b then refuse refusal.NumbersExhausted else answer.Reader x y) ≡ answer.Reader t n → (x ≡ t)
    × (y ≡ n)
entered-told true x y t n e = absurd (cc)
entered-told false x y t n e = (cc, cc)

left-told : (o : Option (Option Entered)) (n : ℕ) → leave_answer o ≡ answer.Left n → (e : Entered)
    × ((o ≡ Some (Some e)) × (e.generation ≡ n))
left-told None n h = absurd (cc)
left-told (Some None) n h = absurd (cc)
left-told (Some (Some e)) n h = (e, (refl, cc))

pub earlier-none : (a b : Option Refusal) → earlier a b ≡ None → a ≡ None
earlier-none None b e = refl
earlier-none (Some r) None e = e
earlier-none (Some r) (Some q) e = absurd (lesser (nat_lt (refusal_number q) (refusal_number r)) e)
  where
    lesser : (t : Bool) → cond t (Some q) (Some r) ≡ None → ⊥
    lesser true e = absurd (cc)
    lesser false e = absurd (cc)

pub goes-on : (a c : Bool) → cond a (Some refusal.GenerationsExhausted) (cond c (Some refusal.GroupCancelled) None) ≡ None → c ≡ false
goes-on true c e = absurd (cc)
goes-on false true e = absurd (cc)
goes-on false false e = refl

changed-told : (n : ℕ) (b : Bool) (m : ℕ) → update_answer n b ≡ answer.Generation m → (b ≡ true) × (n + 1 ≡ m)
changed-told n true m e = (refl, cc)
changed-told n false m e = absurd (cc)

unchanged-told : (n : ℕ) (b : Bool) (m : ℕ) → update_answer n b ≡ answer.Same m → b ≡ false
unchanged-told n true m e = absurd (cc)
unchanged-told n false m e = refl

unrefused-same : (b : Bool) (x : Answer) (m : ℕ) → (if b then refuse refusal.InvalidAddress else x) ≡ answer.Same m → x ≡ answer.Same m
unrefused-same true x m e = absurd (cc)
unrefused-same false x m e = e

pub unrefused-address : (b : Bool) (x : Answer) (m : ℕ) → (if b then refuse refusal.InvalidAddress else x) ≡ answer.Generation m
    → x ≡ answer.Generation m
unrefused-address true x m e = absurd (cc)
unrefused-address false x m e = e

failed-there : {A C : Type 0} (st : Step C) (o : Option A) (w : Work) (g : ℕ) (cause : A → Option Refusal) (a : Answer) → is_failed a ≡ true
    → (a ≡ at_one o (λ x. of_job w (built_or_failed g (cause x))))
    ⊎ (a ≡ without_memory st (at_one o (λ x. of_job w (built_or_failed g (cause x)))))
    → w ≡ building
failed-there st None w g cause a f right = absurd (false-true (sym (elim right [ inl e ↦ ap is_failed e | inr e ↦ ap is_failed e ]) ∙ f))
failed-there st (Some x) w g cause a f right = failed-job st w g (cause x) a f right

kept-free : (b : Bool) → not b ≡ false → b ≡ true
kept-free true e = refl
kept-free false e = absurd (cc)

-- a job goes out from a slot that is there, at a gate that is free
pub record Granting {C : Type 0} (h : History C) (g s now n : ℕ) : Type 0 where
  pub made_by : Made C
  pub config : C
  pub made_is : made_at g h ≡ Some made_by
  pub config_is : slice_get made_by.configs s ≡ Some config
  pub may : slots.MayHappen (past g s h) (slots.Granted now)
  pub free : is_free made_by.gate h ≡ true
  pub newest_is : slots.newest (slot_events g h) ≡ n

module _ {C : Type 0} (M : Meaning C) (h : History C) where
  pub granting : (g s now n : ℕ) → Answers M h (step.ask g s now) (answer.Build n) → Granting h g s now n
  granting g s now n right =
      let told = right-is {C = C} (step.ask g s now) (right_answer M h (step.ask g s now)) (answer.Build n) right refl in
      let m = there (made_at g h) _ (answer.Build n) told refl in
      let c = there (slice_get m.0.configs s) _ (answer.Build n) m.1.1 refl in
      let j = asked-job _ _ n c.1.1 in
      record {
        made_by = m.0;
        config = c.0;
        made_is = m.1.0;
        config_is = c.1.0;
        may = job-may (past g s h) (not (is_free m.0.gate h)) now j.0;
        free = kept-free (is_free m.0.gate h) (free-gate (past g s h) (not (is_free m.0.gate h)) now j.0);
        newest_is = j.1;
      }

  pub failing : (g s now n : ℕ) (r : Refusal) → Answers M h (step.build g s now) (answer.BuildFailed n r) → work g s h ≡ building
  failing g s now n r right = failed-there {C = C} (step.build g s now) (config g s h) (work g s h) _ _ (answer.BuildFailed n r) refl right

  pub building-done : (g s now n : ℕ) → Answers M h (step.build g s now) (answer.Built n) → work g s h ≡ building
  building-done g s now n right =
      let c = there (config g s h) _ (answer.Built n) (right-is {C = C} (step.build g s now) _ (answer.Built n) right refl) refl in
      (job-there (work g s h) _ (answer.Built n) c.1.1 refl).0

  pub ordered-failure : (g s now n : ℕ) → Answers M h (step.failbuild g s now) (answer.Failed n) → work g s h ≡ building
  ordered-failure g s now n right =
      let c = there (config g s h) _ (answer.Failed n) (right-is {C = C} (step.failbuild g s now) _ (answer.Failed n) right refl) refl in
      (job-there (work g s h) _ (answer.Failed n) c.1.1 refl).0

  pub losing : (g s n : ℕ) → Answers M h (step.lost g s) (answer.Lost n) → slots.is_flight (slots.extra (past g s h)) ≡ true
  losing g s n right =
      let c = there (config g s h) _ (answer.Lost n) (right-is {C = C} (step.lost g s) _ (answer.Lost n) right refl) refl in
      lost-flight (slots.extra (past g s h)) n c.1.1

  pub publishing : (g s n : ℕ) → Answers M h (step.publish g s) (answer.Published n)
      → (m : ℕ) × ((work g s h ≡ built m) × (is_served s (slot_events g h) ≡ true))
  publishing g s n right =
      let c = there (config g s h) _ (answer.Published n) (right-is {C = C} (step.publish g s) _ (answer.Published n) right refl) refl in
      let b = built-there (work g s h) _ (answer.Published n) c.1.1 refl in
      (b.0, (b.1.0, served-told (is_served s (slot_events g h)) _ n b.1.1))

  pub retiring : (g s n : ℕ) → Answers M h (step.publish g s) (answer.Abandoned n) → (m : ℕ) × (work g s h ≡ built m)
  retiring g s n right =
      let c = there (config g s h) _ (answer.Abandoned n) (right-is {C = C} (step.publish g s) _ (answer.Abandoned n) right refl) refl in
      let b = built-there (work g s h) _ (answer.Abandoned n) c.1.1 refl in
      (b.0, b.1.0)

  pub abandoning : (g s n : ℕ) → Answers M h (step.abandon g s) (answer.Abandoned n) → (m : ℕ) × (work g s h ≡ built m)
  abandoning g s n right =
      let c = there (config g s h) _ (answer.Abandoned n) (right-is {C = C} (step.abandon g s) _ (answer.Abandoned n) right refl) refl in
      let b = built-there (work g s h) _ (answer.Abandoned n) c.1.1 refl in
      (b.0, b.1.0)

  pub entering : (g s t n : ℕ) → Answers M h (step.enter g s) (answer.Reader t n)
      → (length (entries h) ≡ t) × (slots.served (past g s h) ≡ n)
  entering g s t n right =
      let c = there (config g s h) _ (answer.Reader t n) (right-is {C = C} (step.enter g s) _ (answer.Reader t n) right refl) refl in
      entered-told _ (length (entries h)) (slots.served (past g s h)) t n c.1.1

  pub leaving : (t n : ℕ) → Answers M h (step.leave t) (answer.Left n)
      → (e : Entered) × ((slice_get (entries h) t ≡ Some (Some e)) × (e.generation ≡ n))
  leaving t n right = left-told (slice_get (entries h) t) n (right-is {C = C} (step.leave t) _ (answer.Left n) right refl)

  pub destroying : (g s : ℕ) → Answers M h (step.destroy g s) answer.Destroyed
      → (slots.is_retired_of (slots.generation_of (slots.extra (past g s h))) (slots.extra (past g s h)) ≡ true)
      × (slots.readers (slots.generation_of (slots.extra (past g s h))) (past g s h) ≡ 0)
  destroying g s right =
      let c = there (config g s h) _ answer.Destroyed (right-is {C = C} (step.destroy g s) _ answer.Destroyed right refl) refl in
      taken (slots.extra (past g s h)) (past g s h)
      (unrefused (destroy_refusal (past g s h)) answer.Destroyed answer.Destroyed c.1.1 refl).0

  -- a changed membership comes to a group that is not cancelled
  pub updating : (g now : ℕ) (listings : List Listing) (n : ℕ) → Answers M h (step.update g now listings) (answer.Generation n)
      → (is_change (members_in listings) (slot_events g h) ≡ true) × (slots.is_cancelled (slot_events g h) ≡ false)
      × (slots.newest (slot_events g h) + 1 ≡ n)
  updating g now listings n right =
      let told = right-is {C = C} (step.update g now listings) (right_answer M h (step.update g now listings))
      (answer.Generation n) right refl in
      let m = there (made_at g h) _ (answer.Generation n) (unrefused-address (has_refused listings) _ n told) refl in
      let u = unrefused _ _ (answer.Generation n) m.1.1 refl in
      let c = changed-told (slots.newest (slot_events g h)) (is_change (members_in listings) (slot_events g h)) n u.1 in (
        c.0,
        goes-on (is_change (members_in listings) (slot_events g h) && slots.newest (slot_events g h) == 18446744073709551615)
            (slots.is_cancelled (slot_events g h)) (earlier-none (schedule_refusal (members_in listings) (slot_events g h)) _ u.0),
        c.1,
      )

  -- and the same membership is no change
  pub unchanging : (g now : ℕ) (listings : List Listing) (n : ℕ) → Answers M h (step.update g now listings) (answer.Same n)
      → is_change (members_in listings) (slot_events g h) ≡ false
  unchanging g now listings n right =
      let told = right-is {C = C} (step.update g now listings) (right_answer M h (step.update g now listings)) (answer.Same n) right refl in
      let m = there (made_at g h) _ (answer.Same n) (unrefused-same (has_refused listings) _ n told) refl in
      let u = unrefused _ _ (answer.Same n) m.1.1 refl in
      unchanged-told (slots.newest (slot_events g h)) (is_change (members_in listings) (slot_events g h)) n u.1
