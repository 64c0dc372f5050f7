-- What single steps do: publications, destructions, and that others stay.
use Rattle.std.proofs.Common.{◌≡◌, ◌⊎◌, inl, inr, ◌<◌, ◌==◌, ◌∙◌, ℕ, Bool, true, false, cond, ◌∷◌, refl, sym, ap, subst}
use Rattle.std.proofs.Common.{arith}
use Rattle.std.specs.Prelude.{Option, Some, None}
use Rattle.std.proofs.lemmas.Bool.{eqb-false}
use Rattle.lb_select_base.specs.declared.refusal.Refusal.{Refusal}
use Rattle.lb_select_base.specs.declared.refusal.Refusal.TheVariants as refusal
use Rattle.lb_rebuild_core.specs.SlotsHistory as slots
use Rattle.lb_rebuild_core.specs.SlotsHistory.{At, past_of, served, granted, extra, readers, generation_of}
use Rattle.lb_rebuild_core.specs.SlotCalls.{take_refusal}
use Rattle.lb_rebuild_core.specs.Stands.{left_readers}
use Rattle.lb_rebuild_core.proofs.Telling.{rises}
use Rattle.lb_world.specs.Steps.{Step}
use Rattle.lb_world.specs.Steps as step
use Rattle.lb_world.specs.declared.answer.Answer.{Answer}
use Rattle.lb_world.specs.declared.answer.Answer.TheVariants as answer
use Rattle.lb_world.specs.Meanings.{Meaning}
use Rattle.lb_world.specs.History.{History, config, joined_step, work, ended, past}
use Rattle.lb_world.specs.Shared.{changed, registry_events}
use Rattle.lb_world.specs.Answers.{Answers, IsRun, without_memory, at_one, unless_refused, destroy_refusal}
use Rattle.lb_world.specs.GroupEvents.{cells_for, group_events}
use Rattle.lb_world.specs.Promises.{Raises, DestroysExactly, OthersStay}
use Rattle.lb_world.proofs.Placing.{on-past}
use Rattle.lb_world.proofs.Accepted.{right-is, there, built-there, destroying}
use Rattle.lb_world.proofs.Readers.{counts}
use Rattle.lb_world.proofs.Runs.{slots-fit, Pasts}
use Rattle.lb_world.proofs.Own.{own-step}

told-published : (b : Bool) (x n : ℕ) → cond b (answer.Published x) (answer.Abandoned x) ≡ answer.Published n → x ≡ n
told-published true x n e = cc
told-published false x n e = absurd (cc)

module _ {C : Type 0} (M : Meaning C) where
  published : (h : History C) → (g s n : ℕ) → Answers M h (step.publish g s) (answer.Published n) → granted (past g s h) ≡ n
  published h g s n right =
      let c = there (config g s h) _ (answer.Published n) (right-is {C = C} (step.publish g s) _ (answer.Published n) right refl) refl in
      let b = built-there (work g s h) _ (answer.Published n) c.1.1 refl in
      told-published _ (granted (past g s h)) n b.1.1

  pub raises : (h : History C) (st : Step C) (a : Answer) → IsRun M ((st, a) ∷ h) → Raises h st a
  raises h (step.publish g s) (answer.Published n) run =
      let e : ℕ → slots.SlotEvent = λ i. slots.Published (ended (work g s h)) (slots.granted_members (past i s h)) in
      let is : granted (past g s h) ≡ n = published h g s n run.1 in
      let now : past g s ((step.publish g s, answer.Published n) ∷ h) ≡ At s (e g) ∷ past g s h =
      ap (past_of s) (own-step g h (step.publish g s) (answer.Published n)) ∙ on-past (Pasts h) e g s in
      let can : slots.IsPast (At s (e g) ∷ past g s h) =
      subst slots.IsPast now (slots-fit M ((step.publish g s, answer.Published n) ∷ h) run g s).0 in
      let up : served (past g s h) < granted (past g s h) = rises (At s (e g)) (past g s h) can in
      (omega arith, ap served now ∙ is)
  raises h st a run = tt

-- what cannot be destroyed
is-retired : (e : slots.Extra) → slots.is_retired_of (generation_of e) e ≡ true → e ≡ slots.retired (generation_of e)
is-retired slots.nothing h = absurd (cc)
is-retired (slots.flight m) h = absurd (cc)
is-retired (slots.lost m) h = absurd (cc)
is-retired (slots.retired m) h = refl
is-retired (slots.taken_out m) h = absurd (cc)

still-there : (b : Bool) (n m : ℕ) → (n == 0) ≡ b → cond b None (Some (refusal.StillRead n)) ≡ Some (refusal.StillRead m) → (n ≡ m)
    × (0 < m)
still-there true n m is e = absurd (cc)
still-there false n m is e =
    let same : n ≡ m = cc in
    let off : ¬ (n ≡ 0) = eqb-false n 0 is in (same, omega arith)

still-read : (e : slots.Extra) (p : slots.History) (m : ℕ) → take_refusal e (left_readers e p) ≡ Some (refusal.StillRead m)
    → (n : ℕ) × (e ≡ slots.retired n) × (readers n p ≡ m) × (0 < m)
still-read slots.nothing p m e = absurd (cc)
still-read (slots.flight k) p m e = absurd (cc)
still-read (slots.lost k) p m e = absurd (cc)
still-read (slots.retired k) p m e =
    let s = still-there (readers k p == 0) (readers k p) m refl e in (k, refl, s.0, s.1)
still-read (slots.taken_out k) p m e = absurd (cc)

told-refusal : {A C : Type 0} (st : Step C) (o : Option A) (r : Option Refusal) (m : ℕ)
    → (answer.Refused (refusal.StillRead m) ≡ at_one o (λ c. unless_refused r answer.Destroyed))
    ⊎ (answer.Refused (refusal.StillRead m) ≡ without_memory st (at_one o (λ c. unless_refused r answer.Destroyed)))
    → r ≡ Some (refusal.StillRead m)
told-refusal st None r m right = absurd (elim right [ inl e ↦ cc | inr e ↦ cc ])
told-refusal st (Some c) None m right = absurd (elim right [ inl e ↦ cc | inr e ↦ cc ])
told-refusal st (Some c) (Some q) m right = elim right [ inl e ↦ cc | inr e ↦ cc ]

module _ {C : Type 0} (M : Meaning C) where
  pub destroys : (h : History C) (st : Step C) (a : Answer) → IsRun M ((st, a) ∷ h) → DestroysExactly h st a
  destroys h (step.destroy g s) answer.Destroyed run =
      let d = destroying M h g s run.1 in (
        generation_of (extra (past g s h)),
        is-retired (extra (past g s h)) d.0,
        sym (counts M h run.0 g s (generation_of (extra (past g s h)))) ∙ d.1,
      )
  destroys h (step.destroy g s) (answer.Refused (refusal.StillRead m)) run =
      let r = told-refusal {C = C} (step.destroy g s) (config g s h) (destroy_refusal (past g s h)) m run.1 in
      let k = still-read (extra (past g s h)) (past g s h) m r in
      (k.0, k.1, sym (counts M h run.0 g s k.0) ∙ k.2, k.3)
  destroys h st a run = tt

module _ {C : Type 0} where
  pub others-stay : (h : History C) (st : Step C) (a : Answer) → OthersStay h st a
  others-stay h st a =
      record {
        joined = λ g off. ap (λ (t : Bool). cond t (joined_step cells_for h (group_events g h) st a) (group_events g h)) off;
        registries = λ r off. ap (λ (t : Bool). cond t (changed h ((st, a) ∷ h) st a (registry_events r h)) (registry_events r h)) off;
      }
