-- In a run the readers that a slot's past counts are the entries that are in.
use Rattle.std.proofs.Common.{◌≡◌, ◌+◌, ◌-◌, ◌==◌, ◌&&◌, ◌∙◌, ℕ, Bool, true, false, cond, List, [], ◌∷◌, ◌++◌, refl, sym, ap, subst, arith}
use Rattle.std.proofs.Common.{count_by}
use Rattle.std.specs.Prelude.{Option, Some, None, slice_get, slice_set}
use Rattle.std.proofs.lemmas.Bool.{eq-eqb, ne_eqb}
use Rattle.std.proofs.lemmas.List.Sums.{sum_by_push, sum_by-set}
use Rattle.std.proofs.lemmas.Option.{slice_get_within, get_or_from_slice_get}
use mathlib.Core.Logic.{dite}
use native.Mathlib.Decide.{ℕ_discrete}
use Rattle.lb_rebuild_core.specs.SlotsHistory as slots
use Rattle.lb_rebuild_core.specs.SlotsHistory.{At, Entered as Enters, Left, past_of, served, readers}
use Rattle.lb_world.specs.Steps.{Step}
use Rattle.lb_world.specs.Steps as step
use Rattle.lb_world.specs.declared.answer.Answer.{Answer}
use Rattle.lb_world.specs.declared.answer.Answer.TheVariants as answer
use Rattle.lb_world.specs.Meanings.{Meaning}
use Rattle.lb_world.specs.History.{History, Entered, is_at, reads, group_in, slot_in, config, entries, group_at}
use Rattle.lb_world.specs.History.{slot_events, past}
use Rattle.lb_world.specs.Answers.{IsRun}
use Rattle.lb_world.proofs.Placing.{all-unread, kept-group}
use Rattle.lb_world.proofs.Accepted.{entering, leaving}
use Rattle.lb_world.proofs.Own.{drew, happened, own_after, own-step}

pub count_pushed : {X : Type 0} (p : X → Bool) (xs : List X) (y : X) → count_by p (xs ++ y ∷ []) ≡ count_by p xs + cond (p y) 1 0
count_pushed p xs y = sum_by_push (λ x. cond (p x) 1 0) xs y

pub count_set : {X : Type 0} (p : X → Bool) (xs : List X) (i : ℕ) (x y : X)
    → slice_get xs i ≡ Some x → count_by p (slice_set xs i y) + cond (p x) 1 0 ≡ count_by p xs + cond (p y) 1 0
count_set p xs i x y e =
    rw (get_or_from_slice_get xs i x x e) at (sum_by-set (λ x. cond (p x) 1 0) xs i y x (slice_get_within xs i x e))

one-more : (b : Bool) (c m : ℕ) → m ≡ c → cond b (m + 1) m ≡ c + cond b 1 0
one-more true c m e = omega arith
one-more false c m e = omega arith

one-less : (b : Bool) (c d m : ℕ) → m ≡ c → d + cond b 1 0 ≡ c + 0 → cond b (m - 1) m ≡ d
one-less true c d m e f = omega arith
one-less false c d m e f = omega arith

elsewhere : (a b c : Bool) (x y : ℕ) → x ≡ y → (a && b) ≡ false → x ≡ y + cond (a && (b && c)) 1 0
elsewhere true true c x y e f = absurd (cc)
elsewhere true false c x y e f = omega arith
elsewhere false b c x y e f = omega arith

-- all counts as they were, but for one more, or one less
abbrev pub AllCount : (ℕ → slots.History) → (ℕ → ℕ → ℕ → ℕ) → Type 0
AllCount K c = (i r n : ℕ) → readers n (past_of r (K i)) ≡ c i r n

entered : (K : ℕ → slots.History) (c : ℕ → ℕ → ℕ → ℕ) (g s m : ℕ) → AllCount K c → served (past_of s (K g)) ≡ m
    → (i r n : ℕ) → readers n (past_of r (cond (g == i) (At s Enters ∷ K i) (K i))) ≡ c i r n + cond (g == i && (s == r && m == n)) 1 0
entered K c g s m all is i r n =
    dite (ℕ_discrete g i)
    (λ at.
    dite (ℕ_discrete s r)
    (λ on.
    subst (λ (j : ℕ). readers n (past_of r (cond (g == j) (At s Enters ∷ K j) (K j))) ≡ c j r n + cond (g == j && (s == r && m == n)) 1 0)
    at
    (subst (λ (q : ℕ). readers n (past_of q (cond (g == g) (At s Enters ∷ K g) (K g))) ≡ c g q n + cond (g == g && (s == q && m == n)) 1 0)
    on
    (rw (eq-eqb g g refl, eq-eqb s s refl)
    (subst (λ (q : ℕ). cond (served (past_of s (K g)) == n) (readers n (past_of s (K g)) + 1) (readers n (past_of s (K g))) ≡ c g s n + cond
    (q == n) 1 0) is
    (one-more (served (past_of s (K g)) == n) (c g s n) (readers n (past_of s (K g))) (all g s n))))))
    (λ off. rw (eq-eqb g i at, ne_eqb s r off) (let e : readers n (past_of r (K i)) ≡ c i r n = all i r n in omega arith)))
    (λ apart. rw (ne_eqb g i apart) (let e : readers n (past_of r (K i)) ≡ c i r n = all i r n in omega arith))

eqb-turned : (a b : ℕ) → (a == b) ≡ (b == a)
eqb-turned a b =
    dite (ℕ_discrete a b) (λ at. eq-eqb a b at ∙ sym (eq-eqb b a (sym at))) (λ off. ne_eqb a b off ∙ sym (ne_eqb b a (λ e. off (sym e))))

left : (K : ℕ → slots.History) (c d : ℕ → ℕ → ℕ → ℕ) (g s m : ℕ) → AllCount K c
    → ((i r n : ℕ) → d i r n + cond (g == i && (s == r && m == n)) 1 0 ≡ c i r n + 0)
    → (i r n : ℕ) → readers n (past_of r (cond (g == i) (At s (Left m) ∷ K i) (K i))) ≡ d i r n
left K c d g s m all less i r n =
    dite (ℕ_discrete g i)
    (λ at.
    dite (ℕ_discrete s r)
    (λ on.
    let f : d i r n + cond (m == n) 1 0 ≡ c i r n + 0 = rw (eq-eqb g i at, eq-eqb s r on) at (less i r n) in
    rw (eq-eqb g i at, eq-eqb s r on, eqb-turned n m) (one-less (m == n) (c i r n) (d i r n) (readers n (past_of r (K i))) (all i r n) f))
    (λ off.
    let f : d i r n + 0 ≡ c i r n + 0 = rw (eq-eqb g i at, ne_eqb s r off) at (less i r n) in
    rw (eq-eqb g i at, ne_eqb s r off) (let e : readers n (past_of r (K i)) ≡ c i r n = all i r n in omega arith)))
    (λ apart.
    let f : d i r n + 0 ≡ c i r n + 0 = rw (ne_eqb g i apart) at (less i r n) in
    rw (ne_eqb g i apart) (let e : readers n (past_of r (K i)) ≡ c i r n = all i r n in omega arith))

drew-unread : {C : Type 0} (o : Option C) (s t : ℕ) → all-unread (drew o s t) ≡ true
drew-unread None s t = refl
drew-unread (Some c) s t = refl

module _ {C : Type 0} (M : Meaning C) where
  same : (h : History C) (st : Step C) (a : Answer) (i r n : ℕ) → all-unread (happened h (slot_events i h) st a) ≡ true
      → readers n (past i r h) ≡ count_by (reads i r n) (entries h) → entries ((st, a) ∷ h) ≡ entries h
      → readers n (past_of r (own_after i h st a)) ≡ count_by (reads i r n) (entries ((st, a) ∷ h))
  same h st a i r n unread before kept =
      kept-group (is_at i (group_at h st)) n r (happened h (slot_events i h) st a) (slot_events i h) unread
      ∙ before ∙ sym (ap (λ es. count_by (reads i r n) es) kept)

  counts-step : (h : History C) (st : Step C) (a : Answer) → IsRun M ((st, a) ∷ h)
      → ((i r n : ℕ) → readers n (past i r h) ≡ count_by (reads i r n) (entries h))
      → (i r n : ℕ) → readers n (past_of r (own_after i h st a)) ≡ count_by (reads i r n) (entries ((st, a) ∷ h))
  counts-step h (step.enter g s) (answer.Reader t m) run all i r n =
      entered (λ j. slot_events j h) (λ j q k. count_by (reads j q k) (entries h)) g s m all (entering M h g s t m run.1).1 i r
      n
      ∙ sym (count_pushed (reads i r n) (entries h) (Some (record { group = g; slot = s; generation = m })))
  counts-step h (step.leave t) (answer.Left m) run all i r n =
      let l = leaving M h t m run.1 in
      subst
      (λ (o : Option (Option Entered)).
      readers n (past_of r (cond (is_at i (group_in o)) (At (slot_in o) (Left m) ∷ slot_events i h) (slot_events i h)))
      ≡ count_by (reads i r n) (slice_set (entries h) t None))
      (sym l.1.0)
      (left (λ j. slot_events j h) (λ j q k. count_by (reads j q k) (entries h))
      (λ j q k. count_by (reads j q k) (slice_set (entries h) t None))
      l.0.group l.0.slot m all
      (λ j q k.
      subst
      (λ (x : ℕ).
      count_by (reads j q k) (slice_set (entries h) t None) + cond (l.0.group == j && (l.0.slot == q && x == k)) 1 0
      ≡ count_by (reads j q k) (entries h) + 0)
      l.1.1 (count_set (reads j q k) (entries h) t (Some l.0) None l.1.0))
      i r n)
  counts-step h (step.select g s key limit words) (answer.Backend b t) run all i r n =
      same h (step.select g s key limit words) (answer.Backend b t) i r n (drew-unread (config g s h) s t) (all i r n) refl
  counts-step h (step.select g s key limit words) (answer.NoBackend t) run all i r n =
      same h (step.select g s key limit words) (answer.NoBackend t) i r n (drew-unread (config g s h) s t) (all i r n) refl
  counts-step h (step.select g s key limit words) (answer.NotSelected t) run all i r n =
      same h (step.select g s key limit words) (answer.NotSelected t) i r n (drew-unread (config g s h) s t) (all i r n) refl
  counts-step h (step.update g now ls) (answer.Generation m) run all i r n =
      same h (step.update g now ls) (answer.Generation m) i r n refl (all i r n) refl
  counts-step h (step.ask g s now) (answer.Build m) run all i r n =
      same h (step.ask g s now) (answer.Build m) i r n refl (all i r n) refl
  counts-step h (step.build g s now) (answer.BuildFailed m e) run all i r n =
      same h (step.build g s now) (answer.BuildFailed m e) i r n refl (all i r n) refl
  counts-step h (step.failbuild g s now) (answer.Failed m) run all i r n =
      same h (step.failbuild g s now) (answer.Failed m) i r n refl (all i r n) refl
  counts-step h (step.lost g s) (answer.Lost m) run all i r n = same h (step.lost g s) (answer.Lost m) i r n refl (all i r n) refl
  counts-step h (step.publish g s) (answer.Published m) run all i r n =
      same h (step.publish g s) (answer.Published m) i r n refl (all i r n) refl
  counts-step h (step.publish g s) (answer.Abandoned m) run all i r n =
      same h (step.publish g s) (answer.Abandoned m) i r n refl (all i r n) refl
  counts-step h (step.abandon g s) (answer.Abandoned m) run all i r n =
      same h (step.abandon g s) (answer.Abandoned m) i r n refl (all i r n) refl
  counts-step h (step.destroy g s) answer.Destroyed run all i r n =
      same h (step.destroy g s) answer.Destroyed i r n refl (all i r n) refl
  counts-step h (step.cancel g) answer.Cancelled run all i r n = same h (step.cancel g) answer.Cancelled i r n refl (all i r n) refl
  counts-step h st a run all i r n = same h st a i r n refl (all i r n) refl

  pub counts : (h : History C) → IsRun M h → (g s n : ℕ) → readers n (past g s h) ≡ count_by (reads g s n) (entries h)
  counts [] run g s n = refl
  counts ((st, a) ∷ h) run g s n =
      ap (λ (k : slots.History). readers n (past_of s k)) (own-step g h st a) ∙ counts-step h st a run (counts h run.0) g s n
