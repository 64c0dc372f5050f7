-- The load that was set is the one that the history tells; where memory was refused, nothing is set.
use Rattle.lb_select_base.specs.Loads.{SetsLoad}
use Rattle.lb_world.proofs.Words.{◌∷◌, ◌∙◌, ◌≡◌, ◌++◌, ◌&&◌, [], Answer, Answers, ap, Before, cond, EntryNext, EntryValue, eq-eqb, gate}
use Rattle.lb_world.proofs.Words.{GateValue, slot_events, happened, held_of, History, inl, inr, group_after_step, group_events, List}
use Rattle.lb_world.proofs.Words.{load_in}
use Rattle.lb_world.proofs.Words.{load_of, Meaning, Member, origin, past_of, permit_after, refl, Refusal, RegistryValue, same_member, Some}
use Rattle.lb_world.proofs.Words.{Step, sym, without_memory, work, WorldRule, ℕ}
use Rattle.lb_world.proofs.Entries.{events-here, group-told, next, stays, unshared}
use Rattle.lb_world.proofs.entry.Entry.load.Goals as goal

module _ {C : Type 0} {M : Meaning C} {h : History C} {g : ℕ} {e : EntryValue C} {z : GateValue} {v : RegistryValue WorldRule}
    (b : Before M h g e z v) where
  -- loads that are what the history tells
  lent : {m : Member} {l : ℕ} {a : Answer} (new : List (Member × ℕ)) → Answers M h (Step.load g (Some m) l) a
      → ((q : Member) → load_in new q ≡ load_of g q ((Step.load g (Some m) l, a) ∷ h))
      → group_after_step h (slot_events g h) (group_events g h) (Step.load g (Some m) l) a ≡ group_events g h
      → happened h (slot_events g h) (Step.load g (Some m) l) a ≡ [] → permit_after {C = C} (Step.load g (Some m) l) a z.out ≡ z.out
      → EntryNext M h g (Step.load g (Some m) l) a e z (record e { loads = new }) z v
  lent {m} {l} {a} new right loads joins none out =
      let st : Step C = Step.load g (Some m) l in
      next b e.works new refl right (rw joins (stays b.is)) refl
      (λ s c k cs ks.
      b.is.works_are s c k cs ks
      ∙ ap (λ es. held_of (origin e.core) s c (past_of s es) (work g s h))
      (sym (events-here h st a g refl ∙ ap (λ es. es ++ slot_events g h) none)))
      loads (ap (gate z.id) (sym out)) (unshared b st a refl refl)

  does-load : (m : Member) (l : ℕ) (new : List (Member × ℕ)) → SetsLoad (load_in e.loads) m l (load_in new)
      → EntryNext M h g (Step.load g (Some m) l) Answer.Done e z (record e { loads = new }) z v
  does-load m l new sets =
      lent new (inl (sym (group-told b.is Answer.Done)))
      (λ q.
      sets q ∙ ap (cond (same_member m q) l) (b.is.loads_are q)
      ∙ sym (ap (λ t. cond (t && same_member m q) l (load_of g q h)) (eq-eqb g g refl)))
      refl refl refl

  unset : (m : Member) (l : ℕ) (r : Refusal) (new : List (Member × ℕ)) → r ≡ Refusal.OutOfMemory
      → ((q : Member) → load_in new q ≡ load_in e.loads q)
      → EntryNext M h g (Step.load g (Some m) l) (Answer.Refused r) e z (record e { loads = new }) z v
  unset m l r new none same =
      lent new
      (inr (ap Answer.Refused none ∙ sym (ap (without_memory {C = C} (Step.load g (Some m) l)) (group-told b.is Answer.Done))))
      (λ q. same q ∙ b.is.loads_are q) refl refl refl

pub returns : goal.returns
returns g c =
    rw (← c.self.view_is)
    (λ z v h n b.
    elim c.match-set.branch [
      | goal.in-Ok w ↦ rw w.result-is (does-load b c.args.backend.now c.args.load _ w.in-Ok.ensures.set)
      | goal.in-Err w ↦
          rw w.result-is
          (unset b c.args.backend.now c.args.load _ _ w.in-Err.ensures.refused.0 w.in-Err.ensures.refused.1)
    ])
