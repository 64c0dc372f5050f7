use Rattle.std.specs.Prelude.{Err, refl}
use Rattle.std.proofs.Common.{rules, arith, sym, ◌∙◌, ◌≡◌, true, false}
use Rattle.lb_select_base.specs.declared.refusal.Refusal.TheVariants.{OutOfMemory}
use Rattle.std.specs.Fn.{FnReturnsAt}
use Rattle.lb_select_base.proofs.Searches.{searched_none, searched_repeat, searched_new, finds, ends, at_limit, refused_at, refuses_at}
use Rattle.lb_select_base.specs.Unique.{has_backend}
use Rattle.lb_select_base.proofs.Turns.{none_came}
use Rattle.lb_select_base.proofs.select.find.Goals.{else-not-is_empty-via-then-not-is_empty+else-contains}
use Rattle.lb_select_base.proofs.select.find.Goals.{else-not-is_empty-via-else-not-is_empty}
use Rattle.lb_select_base.proofs.select.find.Goals as goal

pub loop-init : goal.loop-init
loop-init g c = (searched_none _ _ _ _ _ _ c.new-seen.ensures, c.in_ok-walk.ensures.fitting)

pub returns-in_default : goal.returns-in_default
returns-in_default g c =
    (ends _ _ _ _ _ (g.met.S.BackendSelection.rest_starts _) _ _ c.in_ok-walk.ensures.begins c.loop.invariant.0
    (rw c.in_default.is at c.step.ensures.step) (omega (arith, c.loop-test.true)))

pub loop-preserved-then-contains : goal.loop-preserved-then-contains
loop-preserved-then-contains g c = (
  searched_repeat _ _ _ c.in-Some.candidate.now _ _ c.loop.invariant.0 (rw c.in-Some.is at c.step.ensures.step) (sym c.contains.ensures
      ∙ c.if-contains.true),
  c.step.ensures.fitting,
)

pub returns-then-accept : goal.returns-then-accept
returns-then-accept g c =
    let accepted : FnReturnsAt g.F.Fn c.args.accept.now c.in-Some.candidate.now true = search rules in
    let new : has_backend c.loop.seen c.in-Some.candidate.now ≡ false = elim c.else-not-is_empty.branch [
      | else-not-is_empty-via-then-not-is_empty+else-contains w ↦ sym w.contains.ensures ∙ w.if-contains.false
      | else-not-is_empty-via-else-not-is_empty w ↦ none_came _ _ c.is_empty.ensures w.if-not-is_empty.false _
    ] in (
      finds _ _ _ _ _ (g.met.S.BackendSelection.rest_starts _) c.in-Some.candidate.now _ _ c.in_ok-walk.ensures.begins c.loop.invariant.0
          (rw c.in-Some.is at c.step.ensures.step) new accepted c.loop-test.true,
      refused_at _ _ _ _ _ (g.met.S.BackendSelection.rest_starts _) c.in-Some.candidate.now _ _ c.in_ok-walk.ensures.begins
          c.loop.invariant.0 (rw c.in-Some.is at c.step.ensures.step) new c.loop-test.true (Err OutOfMemory) refl,
    )

pub returns-in_err-remember : goal.returns-in_err-remember
returns-in_err-remember g c =
    let new : has_backend c.loop.seen c.in-Some.candidate.now ≡ false = elim c.else-not-is_empty.branch [
      | else-not-is_empty-via-then-not-is_empty+else-contains w ↦ sym w.contains.ensures ∙ w.if-contains.false
      | else-not-is_empty-via-else-not-is_empty w ↦ none_came _ _ c.is_empty.ensures w.if-not-is_empty.false _
    ] in
    refuses_at _ _ _ _ _ (g.met.S.BackendSelection.rest_starts _) c.in-Some.candidate.now _ _ c.in_ok-walk.ensures.begins
    c.loop.invariant.0 (rw c.in-Some.is at c.step.ensures.step)
    new c.loop-test.true _ c.from_residual-in_err-remember.ensures.1

pub loop-preserved : goal.loop-preserved
loop-preserved g c =
    let new : has_backend c.loop.seen c.in-Some.candidate.now ≡ false = elim c.else-not-is_empty.branch [
      | else-not-is_empty-via-then-not-is_empty+else-contains w ↦ sym w.contains.ensures ∙ w.if-contains.false
      | else-not-is_empty-via-else-not-is_empty w ↦ none_came _ _ c.is_empty.ensures w.if-not-is_empty.false _
    ] in
    let refused : FnReturnsAt g.F.Fn c.args.accept.now c.in-Some.candidate.now false = search rules in (
      searched_new _ _ _ c.in-Some.candidate.now c.remember.new.self _ _ c.loop.invariant.0 (rw c.in-Some.is at c.step.ensures.step)
          new refused c.in_ok-remember.ensures.remembered,
      c.step.ensures.fitting,
    )

pub returns : goal.returns
returns g c =
    let full : c.loop.counter ≡ c.args.limit = omega (arith, c.loop-test.false, c.loop.auto.counter-end) in
    (at_limit _ _ _ _ _ (g.met.S.BackendSelection.rest_starts _) _ _ _ c.in_ok-walk.ensures.begins c.loop.invariant.0
    c.step-past.ensures.step full)

-- the walk that is stepped is one over the selector
pub step-requires : goal.step-requires
step-requires g c = c.loop.invariant.1

pub step-past-requires : goal.step-past-requires
step-past-requires g c = c.loop.invariant.1
