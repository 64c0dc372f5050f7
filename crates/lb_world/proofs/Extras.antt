-- In a run, of the slots on a gate one has an extra exactly while the gate's permit is out.
use Rattle.std.proofs.Common.{◌≡◌, ◌⊎◌, inl, inr, ◌==◌, ◌||◌, ◌&&◌, ◌∙◌, ◌+◌, ◌-◌, ◌≤◌, ℕ, zero, suc, Bool, true, false, cond, List, []}
use Rattle.std.proofs.Common.{◌∷◌, ◌++◌, refl, sym, ap, subst, arith}
use Rattle.std.specs.Prelude.{Option, Some, None, not, slice_get}
use Rattle.std.proofs.lemmas.Bool.{eqb-true, false≢true}
use Rattle.std.specs.Option.{option_map}
use Rattle.std.proofs.lemmas.Option.{none-some}
use Rattle.lb_rebuild_core.specs.Laws.{number}
use Rattle.lb_rebuild_core.specs.SlotsHistory as slots
use Rattle.lb_rebuild_core.specs.SlotsHistory.{At, past_of, extra, is_extra, is_flight, is_under_way, is_retired_of, generation_of}
use Rattle.lb_rebuild_core.specs.SlotsHistory.{granted}
use Rattle.lb_world.specs.Steps.{Step}
use Rattle.lb_world.specs.Steps as step
use Rattle.lb_world.specs.declared.answer.Answer.{Answer}
use Rattle.lb_world.specs.declared.answer.Answer.TheVariants as answer
use Rattle.lb_world.specs.Meanings.{Meaning}
use Rattle.lb_world.specs.History.{History, Made, Entered, building, built, is_at, members_in, group_in, slot_in, config_in, config}
use Rattle.lb_world.specs.History.{made, made_at, gate_of, gate_at, slot_gate, gate_in, group_at, work, ended, slot_events, past}
use Rattle.lb_world.specs.History.{is_grant, is_failure, is_destruction, count_on, extras, is_free, is_out}
use Rattle.lb_world.specs.Answers.{IsRun}
use Rattle.lb_world.proofs.Placing.{everywhere, throughout, nowhere, off-past, on-past, off-both, on-both, same-either}
use Rattle.lb_world.proofs.Accepted.{granting, failing, ordered-failure, losing, publishing, retiring, abandoning, leaving, destroying}
use Rattle.lb_world.proofs.Runs.{slots-fit, under_way, Pasts}
use Rattle.lb_world.proofs.Absent.{found, absent}
use Rattle.lb_world.proofs.Holders.{HeldBy, still, granted as grants, returned, grown, out-then}
use Rattle.lb_world.proofs.Own.{drew, happened, own_after, own-step}

-- an extra is there
pub under_way-extra : (n : ℕ) (e : slots.Extra) → is_under_way n e ≡ true → is_extra e ≡ true
under_way-extra n slots.nothing h = absurd (cc)
under_way-extra n (slots.flight m) h = refl
under_way-extra n (slots.lost m) h = refl
under_way-extra n (slots.retired m) h = refl
under_way-extra n (slots.taken_out m) h = refl

flight-extra : (e : slots.Extra) → is_flight e ≡ true → is_extra e ≡ true
flight-extra slots.nothing h = absurd (cc)
flight-extra (slots.flight m) h = refl
flight-extra (slots.lost m) h = refl
flight-extra (slots.retired m) h = refl
flight-extra (slots.taken_out m) h = refl

pub retired-extra : (n : ℕ) (e : slots.Extra) → is_retired_of n e ≡ true → is_extra e ≡ true
retired-extra n slots.nothing h = absurd (cc)
retired-extra n (slots.flight m) h = refl
retired-extra n (slots.lost m) h = refl
retired-extra n (slots.retired m) h = refl
retired-extra n (slots.taken_out m) h = refl

-- a list with one more
pub get-kept : {X : Type 0} (xs : List X) (y x : X) (i : ℕ) → slice_get xs i ≡ Some x → slice_get (xs ++ y ∷ []) i ≡ Some x
get-kept [] y x i e = absurd (none-some x e)
get-kept (z ∷ xs) y x zero e = e
get-kept (z ∷ xs) y x (suc i) e = get-kept xs y x i e

pub seek : {X : Type 0} (o : Option X) → (o ≡ None) ⊎ ((x : X) × (o ≡ Some x))
seek None = inl refl
seek (Some x) = inr (x, refl)

-- the gate of a slot
gate-there : {C : Type 0} (s : ℕ) (o : Option (Made C)) (c : C) → config_in s o ≡ Some c
    → (a : ℕ) × ((option_map (λ m. m.gate) o ≡ Some a) × (gate_at s o ≡ Some a))
gate-there s None c e = absurd (none-some c e)
gate-there s (Some m) c e = (m.gate, (refl, ap (option_map (λ x. m.gate)) e))

gate-kept : {C : Type 0} (s : ℕ) (xs : List (Made C)) (y : Made C) (i a : ℕ) → gate_at s (slice_get xs i) ≡ Some a
    → gate_at s (slice_get (xs ++ y ∷ []) i) ≡ Some a
gate-kept s xs y i a e =
    elim (seek (slice_get xs i)) [
      | inl none ↦ absurd (none-some a (sym (ap (gate_at s) none) ∙ e))
      | inr m ↦ ap (gate_at s) (get-kept xs y m.0 i m.1) ∙ sym (ap (gate_at s) m.1) ∙ e
    ]

abbrev pub has : {C : Type 0} → History C → ℕ → ℕ → Bool
has h i r = is_extra (extra (past i r h))

abbrev pub Held : {C : Type 0} → History C → ℕ → Type 0
Held h a = HeldBy (λ i r. slot_gate i r h) (has h) a (is_out a h)

-- the jobs at a gate are those that ended, and one more while its permit is out
abbrev pub Tally : {C : Type 0} → History C → ℕ → Type 0
Tally h a = count_on is_grant a h ≡ count_on is_failure a h + count_on is_destruction a h + number (is_out a h)

abbrev Sound : {C : Type 0} → History C → ℕ → Type 0
Sound h a = Held h a × Tally h a

-- the same after a step
abbrev has_after : {C : Type 0} → History C → Step C → Answer → ℕ → ℕ → Bool
has_after h st b i r = is_extra (extra (past_of r (own_after i h st b)))

abbrev SoundAfter : {C : Type 0} → History C → Step C → Answer → ℕ → Type 0
SoundAfter h st b a =
    HeldBy (λ i r. slot_gate i r ((st, b) ∷ h)) (has_after h st b) a (is_out a ((st, b) ∷ h)) × Tally ((st, b) ∷ h) a

-- one step in the accounts
tally-grant : (t o : Bool) (J F D : ℕ) → J ≡ F + D + number o → (t ≡ true → o ≡ false)
    → number (true && t) + J ≡ (number (false && t) + F) + (number (false && t) + D) + number (cond t true o)
tally-grant true true J F D e free = absurd (false≢true (sym (free refl)))
tally-grant true false J F D e free = omega arith
tally-grant false o J F D e free = omega arith

tally-failure : (t o : Bool) (J F D : ℕ) → J ≡ F + D + number o → (t ≡ true → o ≡ true)
    → number (false && t) + J ≡ (number (true && t) + F) + (number (false && t) + D) + number (cond t false o)
tally-failure true true J F D e out = omega arith
tally-failure true false J F D e out = absurd (false≢true (out refl))
tally-failure false o J F D e out = omega arith

tally-destruction : (t o : Bool) (J F D : ℕ) → J ≡ F + D + number o → (t ≡ true → o ≡ true)
    → number (false && t) + J ≡ (number (false && t) + F) + (number (true && t) + D) + number (cond t false o)
tally-destruction true true J F D e out = omega arith
tally-destruction true false J F D e out = absurd (false≢true (out refl))
tally-destruction false o J F D e out = omega arith

tally-other : (gr fa de t o : Bool) (J F D : ℕ) → gr ≡ false → (fa || de) ≡ false → J ≡ F + D + number o
    → number (gr && t) + J ≡ (number (fa && t) + F) + (number (de && t) + D) + number (cond t (cond gr true (cond (fa || de) false o)) o)
tally-other true fa de t o J F D a b e = absurd (cc)
tally-other false true de t o J F D a b e = absurd (cc)
tally-other false false true t o J F D a b e = absurd (cc)
tally-other false false false true o J F D a b e = omega arith
tally-other false false false false o J F D a b e = omega arith

pub less-by : (J F D : ℕ) (o : Bool) → J ≡ F + D + number o → J - F - D ≡ number o
less-by J F D true e = omega arith
less-by J F D false e = omega arith

pub most : (o : Bool) (x : ℕ) → x ≡ number o → x ≤ 1
most true x e = omega arith
most false x e = omega arith

none-out : (J F D : ℕ) (o : Bool) → J ≡ F + D + number o → (J - F - D == 0) ≡ true → o ≡ false
none-out J F D true e free = let less = eqb-true (J - F - D) 0 free in absurd (omega (arith, less, less-by J F D true e))
none-out J F D false e free = refl

gate-is : (a b : ℕ) (o : Option ℕ) → o ≡ Some b → is_at a o ≡ true → b ≡ a
gate-is a b o e t = eqb-true b a (sym (ap (is_at a) e) ∙ t)

module _ {C : Type 0} where
  tallied : (h : History C) (st : Step C) (b : Answer) (a : ℕ) → Tally h a → is_grant st b ≡ false
      → (is_failure st b || is_destruction st b) ≡ false → Tally ((st, b) ∷ h) a
  tallied h st b a before grant back =
      tally-other (is_grant st b) (is_failure st b) (is_destruction st b) (is_at a (gate_in h (group_at h st))) (is_out a h)
      (count_on is_grant a h) (count_on is_failure a h) (count_on is_destruction a h) grant back before

  -- a step that grants nothing and gives nothing back
  keep : (h : History C) (st : Step C) (b : Answer) (a : ℕ) → Sound h a → ((i r : ℕ) → has_after h st b i r ≡ has h i r)
      → is_grant st b ≡ false → (is_failure st b || is_destruction st b) ≡ false → made ((st, b) ∷ h) ≡ made h → SoundAfter h st b a
  keep h st b a sound same grant back kept =
      let there : is_out a ((st, b) ∷ h) ≡ is_out a h =
      ap
      (λ (p : Bool × Bool). cond (is_at a (gate_in h (group_at h st))) (cond p.0 true (cond p.1 false (is_out a h))) (is_out a h))
      (λ i. (grant i, back i))
      ∙ same-either (is_at a (gate_in h (group_at h st))) (is_out a h) in (
        subst (λ (o : Bool). HeldBy (λ i r. slot_gate i r ((st, b) ∷ h)) (has_after h st b) a o) (sym there)
            (subst (λ (ms : List (Made C)). HeldBy (λ i r. gate_at r (slice_get ms i)) (has_after h st b) a (is_out a h)) (sym kept)
            (still (λ i r. slot_gate i r h) (has h) (has_after h st b) a (is_out a h) same sound.0)),
        tallied h st b a sound.1 grant back,
      )

  -- the gate at which a step is
  on-gate : (h : History C) (g s a b : ℕ) (X : ℕ → ℕ → Bool) (v : Bool) → gate_of g h ≡ Some b
      → HeldBy (λ i r. slot_gate i r h) X a (cond (b == a) v (is_out a h))
      → HeldBy (λ i r. slot_gate i r h) X a (cond (is_at a (gate_of g h)) v (is_out a h))
  on-gate h g s a b X v at held =
      subst (λ (o : Option ℕ). HeldBy (λ i r. slot_gate i r h) X a (cond (is_at a o) v (is_out a h))) (sym at) held

  -- an event by which a slot gives the permit back
  back : (h : History C) (g s a b : ℕ) (e : ℕ → slots.SlotEvent) → gate_of g h ≡ Some b → slot_gate g s h ≡ Some b → Held h a
      → has h g s ≡ true → is_extra (extra (At s (e g) ∷ past g s h)) ≡ false
      → HeldBy (λ i r. slot_gate i r h)
      (λ i r. is_extra (extra (past_of r (cond (g == i) (At s (e i) ∷ slot_events i h) (slot_events i h))))) a
      (cond (is_at a (gate_of g h)) false (is_out a h))
  back h g s a b e at on held was gone =
      on-gate h g s a b _ false at
      (returned (λ i r. slot_gate i r h) (has h) _ g s a b (is_out a h) on held was
      (ap (λ (p : slots.History). is_extra (extra p)) (on-past (Pasts h) e g s) ∙ gone)
      (λ i r off. ap (λ (p : slots.History). is_extra (extra p)) (off-past (Pasts h) e g s i r off)))

  one : (h : History C) (e : ℕ → slots.SlotEvent) (g s : ℕ) → is_extra (extra (At s (e g) ∷ past g s h)) ≡ has h g s
      → (i r : ℕ) → is_extra (extra (past_of r (cond (g == i) (At s (e i) ∷ slot_events i h) (slot_events i h)))) ≡ has h i r
  one h e g s kept = everywhere (λ p. is_extra (extra p)) (Pasts h) e g s kept

  drawing : (h : History C) (g s t : ℕ) (o : Option C)
      → (i r : ℕ) → is_extra (extra (past_of r (cond (g == i) (drew o s t ++ slot_events i h) (slot_events i h)))) ≡ has h i r
  drawing h g s t None = nowhere (λ p. is_extra (extra p)) (Pasts h) (Pasts h) (λ i. g == i) (λ i. refl)
  drawing h g s t (Some c) = one h (λ i. slots.Drew t) g s refl

module _ {C : Type 0} (M : Meaning C) where
  pub gate-found : (h : History C) (g s : ℕ) (c : C) → config g s h ≡ Some c → (b : ℕ)
      × ((gate_of g h ≡ Some b) × (slot_gate g s h ≡ Some b))
  gate-found h g s c e = gate-there s (made_at g h) c e

  -- a slot that has an extra keeps its gate's permit out
  kept-out : (h : History C) (g s a : ℕ) (c : C) → config g s h ≡ Some c → has h g s ≡ true → Held h a → is_at a (gate_of g h) ≡ true
      → is_out a h ≡ true
  kept-out h g s a c e has_ held_by t =
      let b = gate-found h g s c e in
      let at : b.0 ≡ a = gate-is a b.0 (gate_of g h) b.1.0 t in
      out-then (λ i r. slot_gate i r h) (has h) (has h) g s a (is_out a h) (b.1.1 ∙ ap Some at) has_ held_by

  -- a build that failed
  failed : (h : History C) (g s now a : ℕ) (c : C) → config g s h ≡ Some c → has h g s ≡ true → Sound h a
      → HeldBy (λ i r. slot_gate i r h)
      (λ i r.
      is_extra
      (extra
      (past_of r (cond (g == i) (At s (slots.Failed now (slots.granted_members (past i s h))) ∷ slot_events i h) (slot_events i h)))))
      a (cond (is_at a (gate_of g h)) false (is_out a h))
      × (number (false && is_at a (gate_of g h)) + count_on is_grant a h
      ≡ (number (true && is_at a (gate_of g h)) + count_on is_failure a h)
      + (number (false && is_at a (gate_of g h)) + count_on is_destruction a h)
      + number (cond (is_at a (gate_of g h)) false (is_out a h)))
  failed h g s now a c e has_ before =
      let b = gate-found h g s c e in (
        back h g s a b.0 (λ i. slots.Failed now (slots.granted_members (past i s h))) b.1.0 b.1.1 before.0 has_ refl,
        tally-failure (is_at a (gate_of g h)) (is_out a h) (count_on is_grant a h) (count_on is_failure a h) (count_on is_destruction a h)
            before.1 (kept-out h g s a c e has_ before.0),
      )

  sound-step : (h : History C) (st : Step C) (b : Answer) → IsRun M ((st, b) ∷ h) → ((a : ℕ) → Sound h a) → (a : ℕ) → SoundAfter h st b a
  sound-step h (step.group r b cs) (answer.Group n) run all a =
      let before = all a in (
        grown (λ i q. slot_gate i q h) (λ i q. slot_gate i q ((step.group r b cs, answer.Group n) ∷ h)) (has h) a (is_out a h)
            (λ i q b e. gate-kept q (made h) _ i b e)
            (λ i q.
            elim (seek (made_at i h)) [
              | inl none ↦ inr (ap (λ (k : slots.History). is_extra (extra (past_of q k))) (absent M h run.0 i none).events)
              | inr m ↦ inl (ap (gate_at q) (get-kept (made h) _ m.0 i m.1) ∙ sym (ap (gate_at q) m.1))
            ])
            before.0,
        tallied h (step.group r b cs) (answer.Group n) a before.1 refl refl,
      )
  sound-step h (step.ask g s now) (answer.Build n) run all a =
      let m = granting M h g s now n run.1 in
      let at : gate_of g h ≡ Some m.made_by.gate = ap (option_map (λ (x : Made C). x.gate)) m.made_is in
      let on : slot_gate g s h ≡ Some m.made_by.gate = ap (gate_at s) m.made_is ∙ ap (option_map (λ (x : C). m.made_by.gate)) m.config_is in
      let before = all a in
      let in_ : is_out m.made_by.gate h ≡ false =
      none-out (count_on is_grant m.made_by.gate h) (count_on is_failure m.made_by.gate h) (count_on is_destruction m.made_by.gate h)
      (is_out m.made_by.gate h) (all m.made_by.gate).1 m.free in (
        on-gate h g s a m.made_by.gate _ true at
            (grants (λ i r. slot_gate i r h) (has h) _ g s a m.made_by.gate (is_out a h) on
            (λ e. subst (λ (x : ℕ). is_out x h ≡ false) e in_) before.0
            (ap (λ (p : slots.History). is_extra (extra p)) (on-past (Pasts h) (λ i. slots.Granted now) g s))
            (λ i r off. ap (λ (p : slots.History). is_extra (extra p)) (off-past (Pasts h) (λ i. slots.Granted now) g s i r off))),
        tally-grant (is_at a (gate_of g h)) (is_out a h) (count_on is_grant a h) (count_on is_failure a h) (count_on is_destruction a h)
            before.1 (λ t. subst (λ (x : ℕ). is_out x h ≡ false) (gate-is a m.made_by.gate (gate_of g h) at t) in_),
      )
  sound-step h (step.build g s now) (answer.BuildFailed n e) run all a =
      let c = found {C = C} (step.build g s now) (config g s h) _ (answer.BuildFailed n e) refl run.1 in
      failed h g s now a c.0 c.1
      (under_way-extra (granted (past g s h)) (extra (past g s h))
      (under_way M h g s building (slots-fit M h run.0) (failing M h g s now n e run.1) refl))
      (all a)
  sound-step h (step.failbuild g s now) (answer.Failed n) run all a =
      let c = found {C = C} (step.failbuild g s now) (config g s h) _ (answer.Failed n) refl run.1 in
      failed h g s now a c.0 c.1
      (under_way-extra (granted (past g s h)) (extra (past g s h))
      (under_way M h g s building (slots-fit M h run.0) (ordered-failure M h g s now n run.1) refl))
      (all a)
  sound-step h (step.destroy g s) answer.Destroyed run all a =
      let c = found {C = C} (step.destroy g s) (config g s h) _ answer.Destroyed refl run.1 in
      let b = gate-found h g s c.0 c.1 in
      let has_ : has h g s ≡ true = retired-extra (generation_of (extra (past g s h))) (extra (past g s h)) (destroying M h g s run.1).0 in
      let before = all a in (
        on-gate h g s a b.0 _ false b.1.0
            (returned (λ i r. slot_gate i r h) (has h) _ g s a b.0 (is_out a h) b.1.1 before.0 has_
            (ap (λ (p : slots.History). is_extra (extra p)) (on-both (Pasts h) slots.Destroyed slots.TakenOut g s))
            (λ i r off. ap (λ (p : slots.History). is_extra (extra p)) (off-both (Pasts h) slots.Destroyed slots.TakenOut g s i r off))),
        tally-destruction (is_at a (gate_of g h)) (is_out a h) (count_on is_grant a h) (count_on is_failure a h)
            (count_on is_destruction a h)
            before.1 (kept-out h g s a c.0 c.1 has_ before.0),
      )
  sound-step h (step.update g now ls) (answer.Generation n) run all a =
      keep h (step.update g now ls) (answer.Generation n) a (all a)
      (throughout (λ p. is_extra (extra p)) (Pasts h) (slots.Scheduled (members_in ls) now) (λ i. g == i) (λ r k. refl)) refl refl refl
  sound-step h (step.lost g s) (answer.Lost n) run all a =
      keep h (step.lost g s) (answer.Lost n) a (all a)
      (one h (λ i. slots.WorkerLost) g s (sym (flight-extra (extra (past g s h)) (losing M h g s n run.1)))) refl refl refl
  sound-step h (step.publish g s) (answer.Published n) run all a =
      let b = publishing M h g s n run.1 in
      keep h (step.publish g s) (answer.Published n) a (all a)
      (one h (λ i. slots.Published (ended (work g s h)) (slots.granted_members (past i s h))) g s
      (sym (under_way-extra (granted (past g s h)) (extra (past g s h)) (under_way M h g s (built b.0) (slots-fit M h run.0) b.1.0 refl))))
      refl refl refl
  sound-step h (step.publish g s) (answer.Abandoned n) run all a =
      let b = retiring M h g s n run.1 in
      keep h (step.publish g s) (answer.Abandoned n) a (all a)
      (one h (λ i. slots.Abandoned (slots.granted_members (past i s h))) g s
      (sym (under_way-extra (granted (past g s h)) (extra (past g s h)) (under_way M h g s (built b.0) (slots-fit M h run.0) b.1 refl))))
      refl refl refl
  sound-step h (step.abandon g s) (answer.Abandoned n) run all a =
      let b = abandoning M h g s n run.1 in
      keep h (step.abandon g s) (answer.Abandoned n) a (all a)
      (one h (λ i. slots.Abandoned (slots.granted_members (past i s h))) g s
      (sym (under_way-extra (granted (past g s h)) (extra (past g s h)) (under_way M h g s (built b.0) (slots-fit M h run.0) b.1 refl))))
      refl refl refl
  sound-step h (step.enter g s) (answer.Reader t n) run all a =
      keep h (step.enter g s) (answer.Reader t n) a (all a) (one h (λ i. slots.Entered) g s refl) refl refl refl
  sound-step h (step.leave t) (answer.Left n) run all a =
      let l = leaving M h t n run.1 in
      keep h (step.leave t) (answer.Left n) a (all a)
      (λ i r.
      subst
      (λ (o : Option (Option Entered)).
      is_extra (extra (past_of r (cond (is_at i (group_in o)) (At (slot_in o) (slots.Left n) ∷ slot_events i h) (slot_events i h)))) ≡ has h
      i r)
      (sym l.1.0) (one h (λ j. slots.Left n) l.0.group l.0.slot refl i r))
      refl refl refl
  sound-step h (step.select g s key limit words) (answer.Backend b t) run all a =
      keep h (step.select g s key limit words) (answer.Backend b t) a (all a) (drawing h g s t (config g s h)) refl refl refl
  sound-step h (step.select g s key limit words) (answer.NoBackend t) run all a =
      keep h (step.select g s key limit words) (answer.NoBackend t) a (all a) (drawing h g s t (config g s h)) refl refl refl
  sound-step h (step.select g s key limit words) (answer.NotSelected t) run all a =
      keep h (step.select g s key limit words) (answer.NotSelected t) a (all a) (drawing h g s t (config g s h)) refl refl refl
  sound-step h (step.cancel g) answer.Cancelled run all a =
      keep h (step.cancel g) answer.Cancelled a (all a)
      (throughout (λ p. is_extra (extra p)) (Pasts h) slots.Cancelled (λ i. g == i) (λ r k. refl)) refl refl refl
  sound-step h st b run all a =
      keep h st b a (all a)
      (nowhere (λ p. is_extra (extra p)) (Pasts h) (λ i. happened h (slot_events i h) st b ++ slot_events i h)
      (λ i. is_at i (group_at h st)) (λ i. refl))
      refl refl refl

  sound : (h : History C) → IsRun M h → (a : ℕ) → Sound h a
  sound [] run a = (λ i r on. refl, refl)
  sound ((st, b) ∷ h) run a =
      let now = sound-step h st b run (sound h run.0) a in (
        still (λ i r. slot_gate i r ((st, b) ∷ h)) (has_after h st b) (has ((st, b) ∷ h)) a (is_out a ((st, b) ∷ h))
            (λ i r. ap (λ (k : slots.History). is_extra (extra (past_of r k))) (own-step i h st b)) now.0,
        now.1,
      )

  pub held : (h : History C) → IsRun M h → (a : ℕ) → Held h a
  held h run a = (sound h run a).0

  -- so the extras of a gate are one while its permit is out, and else none
  pub extras-out : (h : History C) → IsRun M h → (a : ℕ) → extras a h ≡ number (is_out a h)
  extras-out h run a =
      less-by (count_on is_grant a h) (count_on is_failure a h) (count_on is_destruction a h) (is_out a h) (sound h run a).1

  pub free-in : (h : History C) → IsRun M h → (a : ℕ) → not (is_free a h) ≡ is_out a h
  free-in h run a = ap (λ n. not (n == 0)) (extras-out h run a) ∙ by (is_out a h)
    where
      by : (o : Bool) → not (number o == 0) ≡ o
      by true = refl
      by false = refl
