-- A selection that is not refused answers the first accepted backend among the distinct of the first candidates.
use Rattle.std.proofs.Common.{◌≡◌, inl, inr, ◌≤◌, ◌+◌, ◌-◌, ◌∙◌, ℕ, Bool, true, false, List, [], ◌∷◌, ◌++◌, length, take, refl, sym, ap}
use Rattle.std.proofs.Common.{subst, arith, append_assoc}
use Rattle.std.specs.Prelude.{Option, Some, None, Result, Ok, Err, MatchBool, MatchOption, slice_get}
use Rattle.std.specs.List.{AllByRecursion as Each}
use Rattle.std.proofs.lemmas.List.{take-append-le}
use Rattle.std.proofs.Math.Seq.{take-append-add}
use Rattle.lb_select_base.specs.Backends.{Member, same_member}
use Rattle.lb_select_base.specs.Draws.{HandedValue, LoadedGives}
use Rattle.lb_select_base.specs.Selections.{IsAnswer, Selects}
use Rattle.lb_select_base.specs.Unique.{firsts, distinct}
use Rattle.lb_select_base.specs.declared.refusal.Refusal.{Refusal}
use Rattle.lb_select_base.specs.declared.refusal.Refusal.TheVariants as refusal
use Rattle.lb_select_base.proofs.Lists.{append-nil}
use Rattle.lb_select_base.proofs.SelectionLaws.{distinct-append}
use Rattle.lb_rebuild_core.specs.SlotsHistory as slots
use Rattle.lb_world.specs.Steps.{Step}
use Rattle.lb_world.specs.Steps as step
use Rattle.lb_world.specs.declared.answer.Answer.{Answer}
use Rattle.lb_world.specs.declared.answer.Answer.TheVariants as answer
use Rattle.lb_world.specs.Meanings.{Meaning}
use Rattle.lb_world.specs.History.{History, Made, config_in, made_at, slot_events, past, load_of}
use Rattle.lb_world.specs.Answers.{IsRun, SelectAnswers, SelectsIn, Judges, refuse, selected}
use Rattle.lb_world.specs.Selected.{IsFirst, AreEnough, SelectedOf, FirstAccepted}

-- more of a list than it is long begins with the list
take-more : (n : ℕ) (xs ys : List Member) → length xs ≤ n → take n (xs ++ ys) ≡ xs ++ take (n - length xs) ys
take-more n xs ys long =
    let whole : length xs + (n - length xs) ≡ n = omega arith in
    ap (λ k. take k (xs ++ ys)) (sym whole) ∙ take-append-add xs ys (n - length xs)

module _ (judged : Member → Bool → Type 0) (limit : ℕ) (cs : List Member) (ended : Bool) where
  first-of : (r : Option Member) (more : List Member) → IsAnswer same_member judged limit cs ended r → (ended ≡ true → more ≡ [])
      → IsFirst judged (distinct same_member (take limit (cs ++ more))) r
  first-of (Some b) more answered over =
      let later = firsts same_member cs (take (limit - length cs) more) in (
        distinct same_member answered.0,
        later,
        ap (distinct same_member) (take-more limit cs more answered.2) ∙ distinct-append same_member cs (take (limit - length cs) more)
            ∙ ap (λ (xs : List Member). xs ++ later) answered.3 ∙ append_assoc (distinct same_member answered.0) (b ∷ []) later,
        answered.4,
        answered.5,
      )
  first-of None more answered over =
      let kept : take limit (cs ++ more) ≡ take limit cs = elim answered.1 [
        | inl past ↦ take-append-le limit cs more (omega arith)
        | inr end ↦ rw (over end.0, append-nil cs)
      ] in
      subst (λ (xs : List Member). Each (λ x. judged x false) (distinct same_member xs)) (sym kept) answered.0

  enough-drawn : (r : Option Member) → IsAnswer same_member judged limit cs ended r → AreEnough limit cs ended r
  enough-drawn None answered = elim answered.1 [ inl more ↦ inl (omega arith) | inr over ↦ inr over.0 ]
  enough-drawn (Some b) answered = tt

-- an answer tells what was selected
told : (t u : ℕ) (q : Result (Option Member) Refusal) (r : Option Member) → selected t q ≡ selected u (Ok r) → (q ≡ Ok r) × (t ≡ u)
told t u (Ok None) None e = (refl, cc)
told t u (Ok None) (Some b) e = absurd (cc)
told t u (Ok (Some c)) None e = absurd (cc)
told t u (Ok (Some c)) (Some b) e = (cc, cc)
told t u (Err x) None e = absurd (cc)
told t u (Err x) (Some b) e = absurd (cc)

refused-none : (x : Refusal) (t : ℕ) (r : Option Member) → refuse x ≡ selected t (Ok r) → ⊥
refused-none x t None e = absurd (cc)
refused-none x t (Some b) e = absurd (cc)

nobody : (t u : ℕ) (r : Option Member) → answer.NoBackend t ≡ selected u (Ok r) → r ≡ None
nobody t u None e = refl
nobody t u (Some b) e = absurd (cc)

module _ {C : Type 0} (M : Meaning C) (h : History C) (g s : ℕ) (key : List ℕ) (limit : ℕ) (words : List ℕ) (a : Answer) where
  from-walk : (c : C) (q : Result (Option Member) Refusal) (left : HandedValue) (t : ℕ) (r : Option Member)
      → Selects same_member (Judges h g (slots.served (past g s h))) limit (LoadedGives (λ b. load_of g b h))
      (M.walks (slots.members_of (slots.served (past g s h)) (slot_events g h)) c key)
      (record { tickets = slots.drawn (past g s h); words = words }) q left
      → selected left.tickets q ≡ selected t (Ok r)
      → (end : HandedValue) × (end.tickets ≡ t) × SelectedOf M h g s (slots.served (past g s h)) c key limit words end r
  from-walk c (Err x) left t r found e = absurd (let clash : Err x ≡ Ok r = (told left.tickets t (Err x) r e).0 in cc)
  from-walk c (Ok q) left t r found e =
      let is = told left.tickets t (Ok q) r e in
      let same : q ≡ r = (let both : Ok q ≡ Ok r = is.0 in cc) in (
        left,
        is.1,
        subst (λ (x : Option Member). SelectedOf M h g s (slots.served (past g s h)) c key limit words left x) same
            (record {
              draws = found.2.draws;
              candidates = found.0;
              ended = found.1;
              drawn = found.2.drawn;
              walked = found.2.walked;
              first = λ more over. first-of (Judges h g (slots.served (past g s h))) limit found.0 found.1 q more found.3 over;
              enough = enough-drawn (Judges h g (slots.served (past g s h))) limit found.0 found.1 q found.3;
            }),
      )

  from-slot : (b : Bool) (c : C) (t : ℕ) (r : Option Member)
      → MatchBool b (a ≡ refuse refusal.NotEnoughWords)
      ((q : Result (Option Member) Refusal) × (left : HandedValue)
      × Selects same_member (Judges h g (slots.served (past g s h))) limit (LoadedGives (λ x. load_of g x h))
      (M.walks (slots.members_of (slots.served (past g s h)) (slot_events g h)) c key)
      (record { tickets = slots.drawn (past g s h); words = words }) q left
      × (a ≡ selected left.tickets q))
      → a ≡ selected t (Ok r)
      → (end : HandedValue) × (end.tickets ≡ t) × SelectedOf M h g s (slots.served (past g s h)) c key limit words end r
  from-slot true c t r right e = absurd (refused-none refusal.NotEnoughWords t r (sym right ∙ e))
  from-slot false c t r right e = from-walk c right.0 right.1 t r right.2 (sym right.3 ∙ e)

  from-group : (o : Option (Made C)) (t : ℕ) (r : Option Member)
      → MatchOption o (a ≡ refuse refusal.NoSuch)
      (λ m.
      MatchOption (slice_get m.configs s) (a ≡ answer.NoBackend 0)
      (λ c. SelectsIn M h g s (slots.served (past g s h)) c key limit words a))
      → a ≡ selected t (Ok r)
      → MatchOption (config_in s o) (r ≡ None)
      (λ c. (left : HandedValue) × (left.tickets ≡ t) × SelectedOf M h g s (slots.served (past g s h)) c key limit words left r)
  from-group None t r right e = absurd (refused-none refusal.NoSuch t r (sym right ∙ e))
  from-group (Some m) t r right e = from-config (slice_get m.configs s) right
    where
      from-config : (o : Option C) → MatchOption o (a ≡ answer.NoBackend 0)
          (λ c. SelectsIn M h g s (slots.served (past g s h)) c key limit words a)
          → MatchOption o (r ≡ None)
          (λ c. (left : HandedValue) × (left.tickets ≡ t) × SelectedOf M h g s (slots.served (past g s h)) c key limit words left r)
      from-config None n = nobody 0 t r (sym n ∙ e)
      from-config (Some c) n = from-slot _ c t r n e

  pub selecting : SelectAnswers M h g s key limit words a → FirstAccepted M h (step.select g s key limit words) a
  selecting right t r e = from-group (made_at g h) t r right e

module _ {C : Type 0} (M : Meaning C) where
  pub first-accepted : (h : History C) (st : Step C) (a : Answer) → IsRun M ((st, a) ∷ h) → FirstAccepted M h st a
  first-accepted h (step.select g s key limit words) a run = selecting M h g s key limit words a run.1
  first-accepted h st a run = tt
