use Rattle.std.proofs.Common.{◌≡◌, ◌<◌, ◌≤◌, ◌+◌, ◌^◌, ⊎_elim, ℕ, List, [], ◌∷◌, ◌++◌, None, take, drop, refl, sym, ap, ◌∙◌, arith}
use Rattle.std.proofs.lemmas.Bool.{cases_lt}
use Rattle.std.proofs.lemmas.List.{take_more, take-append-drop}
use Rattle.std.specs.Ordering.{nat_cmp}
use Rattle.lb_health_core.specs.Starts.{value_at}
use Rattle.lb_health_core.proofs.NumberLemmas.{below_apart, numbered-had, numbered-new, stored-stays, stored-had, stored-new}
use Rattle.lb_health_core.proofs.NumberLemmas.{untargeted, exhausted_by}
use Rattle.lb_health_core.proofs.numbering.numbered.Goals as goal
use Rattle.lb_health_core.proofs.numbering.numbered.Goals.{in-Some+in_ok-clone-in-Some+in_ok-insert-in-Some}

pub returns-in_default-clause-exhausted : goal.returns-in_default-clause-exhausted
returns-in_default-clause-exhausted g c =
    let x = c.key-item.result in
    let i = c.loop-key.key-index in
    let keys = c.args.keys.now in
    let one : take (i + 1) keys ≡ take i keys ++ x ∷ []
    = take_more keys i x c.loop-key-test.true ∙ ap (λ (y : g.row.K.Denot). take i keys ++ y ∷ []) (sym c.key-item.is) in
    let whole : keys ≡ (take i keys ++ x ∷ []) ++ drop (i + 1) keys
    = sym (take-append-drop (i + 1) keys) ∙ ap (λ (ys : List g.row.K.Denot). ys ++ drop (i + 1) keys) one in
    λ e all n.
    exhausted_by g.met.K.Ord.total all (take i keys) (drop (i + 1) keys) keys x c.loop-key.next (c.loop-key.invariant.numbered all n).given
    (untargeted g.met.K.Ord.total all _ _ x n (sym c.get.ensures.value ∙ sym c.copied-had.ensures ∙ c.in-None.is)) whole
    (⊎_elim (λ (l : c.loop-key.next + 1 < 2 ^ 64). absurd (c.in_default.ensures l)) (λ (h : 2 ^ 64 ≤ c.loop-key.next + 1). h)
    (cases_lt (c.loop-key.next + 1) (2 ^ 64)))

pub loop-key-preserved : goal.loop-key-preserved
loop-key-preserved g c =
    let x = c.key-item.result in
    let i = c.loop-key.key-index in
    let keys = c.args.keys.now in
    let total = g.met.K.Ord.total in
    let one : take (i + 1) keys ≡ take i keys ++ x ∷ []
    = take_more keys i x c.loop-key-test.true ∙ ap (λ (y : g.row.K.Denot). take i keys ++ y ∷ []) (sym c.key-item.is) in
    elim c.match-had.branch [
      | in-Some+in_ok-clone-in-Some+in_ok-insert-in-Some w ↦
          rw (one, w.by_key-is, w.next-is, w.cells-is) (record {
            bound = c.loop-key.invariant.bound;
            fits = c.loop-key.invariant.fits;
            others = c.loop-key.invariant.others;
            numbered = λ all n.
                numbered-had total all (take i keys) x _ _ _ _ (c.loop-key.invariant.numbered all n)
                (sym (n.cells x) ∙ sym c.get.ensures.value ∙ sym c.copied-had.ensures ∙ w.in-Some.is)
                (rw (g.met.K.HealthKey.clone_is _ _ w.in_ok-clone-in-Some.ensures.cases) at w.in_ok-insert-in-Some.ensures.updates).0;
            stored = λ all first n s.
                stored-had total all (take i keys) x _ first c.args.start c.loop-key.cells
                (sym (n.cells x) ∙ sym c.get.ensures.value ∙ sym c.copied-had.ensures ∙ w.in-Some.is)
                (stored-stays total all first c.args.start c.args.cells.now c.loop-key.cells c.args.before.now.next
                (omega (arith, n.given)) c.loop-key.invariant.others s)
                (c.loop-key.invariant.stored all first n s);
          })
      | goal.in-None+in-Some-checked_add+in_ok-clone-in-None+in_ok-insert-in-None+in_ok-clone-in-None-2+in_ok-insert-in-None-2 w ↦
          let none : value_at g.K.Ord.cmp c.args.before.now.by_key.entries x ≡ None
          = sym c.get.ensures.value ∙ sym c.copied-had.ensures ∙ w.in-None.is in
          let stored = rw (g.met.K.HealthKey.clone_is _ _ w.in_ok-clone-in-None.ensures.cases) at w.in_ok-insert-in-None.ensures.stored in
          let by_key = rw (g.met.K.HealthKey.clone_is _ _ w.in_ok-clone-in-None-2.ensures.cases) at
          w.in_ok-insert-in-None-2.ensures.updates in
          let other : (d : ℕ) → d < c.loop-key.next → value_at nat_cmp w.insert-in-None.new.self d ≡ value_at nat_cmp c.loop-key.cells d
          = λ d l. w.in_ok-insert-in-None.ensures.others d (below_apart c.loop-key.next d l) in
          rw (one, w.by_key-is, w.next-is, w.cells-is, w.in-Some-checked_add.ensures.1) (record {
            bound = omega (arith, c.loop-key.invariant.bound);
            fits = w.in-Some-checked_add.ensures.0;
            others = λ d l. other d (omega (arith, c.loop-key.invariant.bound)) ∙ c.loop-key.invariant.others d l;
            numbered = λ all n.
                numbered-new total all (take i keys) x _ _ _ (c.loop-key.invariant.numbered all n) (untargeted total all _ _ x n none)
                by_key.0;
            stored = λ all first n s.
                stored-new total all (take i keys) x c.loop-key.next first c.args.start c.loop-key.cells w.insert-in-None.new.self _
                (untargeted total all _ _ x n none) (c.loop-key.invariant.numbered all n).given refl w.starting.ensures stored other
                (c.loop-key.invariant.stored all first n s);
          })
    ]

pub returns-clause-fits : goal.returns-clause-fits
returns-clause-fits g c = c.loop-key.invariant.fits
