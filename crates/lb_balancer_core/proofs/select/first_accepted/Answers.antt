use Rattle.std.specs.Prelude.{Err}
use Rattle.std.proofs.Common.{rules, arith, sym, ◌∙◌, ◌≡◌, true, false, refl}
use Rattle.lb_select_base.specs.declared.refusal.Refusal.TheVariants.{OutOfMemory}
use Rattle.lb_balancer_core.specs.Looks.{Answers}
use Rattle.lb_balancer_core.proofs.Visits.{visited_none, visited_repeat, visited_new, visit_ends, visit_limit, visit_finds, visit_refused}
use Rattle.lb_balancer_core.proofs.Visits.{visit_refuses, visit_named, visit_owned}
use Rattle.lb_select_base.proofs.Turns.{none_came}
use Rattle.lb_select_base.specs.Unique.{has_backend}
use Rattle.lb_balancer_core.proofs.select.first_accepted.Goals.{else-not-is_empty-via-then-not-is_empty+else-contains}
use Rattle.lb_balancer_core.proofs.select.first_accepted.Goals.{else-not-is_empty-via-else-not-is_empty}
use Rattle.lb_balancer_core.proofs.select.first_accepted.Goals as goal

pub loop-init : goal.loop-init
loop-init g c = (visited_none _ _ _ _ _ _ _ _ _ _ c.new-seen.ensures, c.in_ok-walk.ensures.fitting)

pub returns-in_default-clause-found : goal.returns-in_default-clause-found
returns-in_default-clause-found g c =
    let walks = g.S.BackendSelection.walks c.args.words.now.reader.now.members c.args.words.now.reader.now.config c.args.key.now in
    let begins = rw (c.lent_by-of.ensures.members, c.lent_by-of.ensures.config) at c.in_ok-walk.ensures.begins in
    visit_ends _ _ _ _ _ _ _ walks c.args.limit (g.met.S.BackendSelection.rest_starts _) begins c.loop.invariant.0 _ _
    (rw c.in_default.is at c.step.ensures.step)
    (omega (arith, c.loop-test.true))

pub returns-in_default-clause-same_reference : goal.returns-in_default-clause-same_reference
returns-in_default-clause-same_reference g c =
    let walks = g.S.BackendSelection.walks c.args.words.now.reader.now.members c.args.words.now.reader.now.config c.args.key.now in
    let begins = rw (c.lent_by-of.ensures.members, c.lent_by-of.ensures.config) at c.in_ok-walk.ensures.begins in
    visit_named _ _ _ _ _ _ _ walks c.args.limit (g.met.S.BackendSelection.rest_starts _) begins c.loop.invariant.0 _ _ _
    c.step.ensures.step

pub loop-preserved-then-contains : goal.loop-preserved-then-contains
loop-preserved-then-contains g c = (
  visited_repeat _ _ _ _ _ _ _ c.loop.invariant.0 c.in-Some.candidate.now _ _ (rw c.in-Some.is at c.step.ensures.step)
      (sym c.contains.ensures ∙ c.if-contains.true),
  c.step.ensures.fitting,
)

pub ready-ready-requires : goal.ready-ready-requires
ready-ready-requires g c =
    let walks = g.S.BackendSelection.walks c.args.words.now.reader.now.members c.args.words.now.reader.now.config c.args.key.now in
    let begins = rw (c.lent_by-of.ensures.members, c.lent_by-of.ensures.config) at c.in_ok-walk.ensures.begins in
    visit_owned _ _ _ _ _ _ _ walks c.args.limit (g.met.S.BackendSelection.rest_starts _) begins c.loop.invariant.0 _ _ _
    c.step.ensures.step
    (λ x o. g.P.TakesReaders.owns_reader x o) (λ x o d y. g.met.P.SelectPort.draws_keep x o d y)
    (λ x o b a y. g.met.P.SelectPort.readies_keep x o b a y)
    c.requires.own

pub returns-then-accept-clause-found : goal.returns-then-accept-clause-found
returns-then-accept-clause-found g c =
    let walks = g.S.BackendSelection.walks c.args.words.now.reader.now.members c.args.words.now.reader.now.config c.args.key.now in
    let begins = rw (c.lent_by-of.ensures.members, c.lent_by-of.ensures.config) at c.in_ok-walk.ensures.begins in
    let taken : Answers g.F.Fn c.args.accept.now c.in-Some.candidate.now c.ready-ready.result true = search rules in
    let new : has_backend c.loop.seen c.in-Some.candidate.now ≡ false = elim c.else-not-is_empty.branch [
      | else-not-is_empty-via-then-not-is_empty+else-contains w ↦ sym w.contains.ensures ∙ w.if-contains.false
      | else-not-is_empty-via-else-not-is_empty w ↦ none_came _ _ c.is_empty.ensures w.if-not-is_empty.false _
    ] in (
      visit_finds _ _ _ _ _ _ _ walks c.args.limit (g.met.S.BackendSelection.rest_starts _) begins c.loop.invariant.0
          c.in-Some.candidate.now _ _ _ _ (rw c.in-Some.is at c.step.ensures.step) new c.ready-ready.ensures c.loop-test.true taken,
      visit_refused _ _ _ _ _ _ _ walks c.args.limit (g.met.S.BackendSelection.rest_starts _) begins c.loop.invariant.0
          c.in-Some.candidate.now _ _ _ _ (rw c.in-Some.is at c.step.ensures.step) new c.ready-ready.ensures c.loop-test.true
          (Err OutOfMemory) refl,
    )

pub returns-then-accept-clause-same_reference : goal.returns-then-accept-clause-same_reference
returns-then-accept-clause-same_reference g c =
    let walks = g.S.BackendSelection.walks c.args.words.now.reader.now.members c.args.words.now.reader.now.config c.args.key.now in
    let begins = rw (c.lent_by-of.ensures.members, c.lent_by-of.ensures.config) at c.in_ok-walk.ensures.begins in
    visit_named _ _ _ _ _ _ _ walks c.args.limit (g.met.S.BackendSelection.rest_starts _) begins c.loop.invariant.0 _ _ _
    c.step.ensures.step

pub returns-in_err-remember-clause-found : goal.returns-in_err-remember-clause-found
returns-in_err-remember-clause-found g c =
    let walks = g.S.BackendSelection.walks c.args.words.now.reader.now.members c.args.words.now.reader.now.config c.args.key.now in
    let begins = rw (c.lent_by-of.ensures.members, c.lent_by-of.ensures.config) at c.in_ok-walk.ensures.begins in
    let new : has_backend c.loop.seen c.in-Some.candidate.now ≡ false = elim c.else-not-is_empty.branch [
      | else-not-is_empty-via-then-not-is_empty+else-contains w ↦ sym w.contains.ensures ∙ w.if-contains.false
      | else-not-is_empty-via-else-not-is_empty w ↦ none_came _ _ c.is_empty.ensures w.if-not-is_empty.false _
    ] in
    visit_refuses _ _ _ _ _ _ _ walks c.args.limit (g.met.S.BackendSelection.rest_starts _) begins c.loop.invariant.0
    c.in-Some.candidate.now _ _ _ _
    (rw c.in-Some.is at c.step.ensures.step) new c.ready-ready.ensures c.loop-test.true _
    c.from_residual-in_err-remember.ensures.1

pub returns-in_err-remember-clause-same_reference : goal.returns-in_err-remember-clause-same_reference
returns-in_err-remember-clause-same_reference g c =
    let walks = g.S.BackendSelection.walks c.args.words.now.reader.now.members c.args.words.now.reader.now.config c.args.key.now in
    let begins = rw (c.lent_by-of.ensures.members, c.lent_by-of.ensures.config) at c.in_ok-walk.ensures.begins in
    visit_named _ _ _ _ _ _ _ walks c.args.limit (g.met.S.BackendSelection.rest_starts _) begins c.loop.invariant.0 _ _ _
    c.step.ensures.step

pub loop-preserved : goal.loop-preserved
loop-preserved g c =
    let new : has_backend c.loop.seen c.in-Some.candidate.now ≡ false = elim c.else-not-is_empty.branch [
      | else-not-is_empty-via-then-not-is_empty+else-contains w ↦ sym w.contains.ensures ∙ w.if-contains.false
      | else-not-is_empty-via-else-not-is_empty w ↦ none_came _ _ c.is_empty.ensures w.if-not-is_empty.false _
    ] in
    let refused : Answers g.F.Fn c.args.accept.now c.in-Some.candidate.now c.ready-ready.result false = search rules in (
      visited_new _ _ _ _ _ _ _ c.loop.invariant.0 c.in-Some.candidate.now _ _ _ _ (rw c.in-Some.is at c.step.ensures.step)
          new c.ready-ready.ensures c.remember.new.self _ refl
          (record { reader = refl; name = refl }) refused
          c.in_ok-remember.ensures.remembered,
      c.step.ensures.fitting,
    )

pub returns-clause-found : goal.returns-clause-found
returns-clause-found g c =
    let walks = g.S.BackendSelection.walks c.args.words.now.reader.now.members c.args.words.now.reader.now.config c.args.key.now in
    let begins = rw (c.lent_by-of.ensures.members, c.lent_by-of.ensures.config) at c.in_ok-walk.ensures.begins in
    let full : c.loop.counter ≡ c.args.limit = omega (arith, c.loop-test.false, c.loop.auto.counter-end) in
    visit_limit _ _ _ _ _ _ _ walks c.args.limit (g.met.S.BackendSelection.rest_starts _) begins c.loop.invariant.0 _ _ _
    c.step-past.ensures.step full

pub returns-clause-same_reference : goal.returns-clause-same_reference
returns-clause-same_reference g c =
    let walks = g.S.BackendSelection.walks c.args.words.now.reader.now.members c.args.words.now.reader.now.config c.args.key.now in
    let begins = rw (c.lent_by-of.ensures.members, c.lent_by-of.ensures.config) at c.in_ok-walk.ensures.begins in
    visit_named _ _ _ _ _ _ _ walks c.args.limit (g.met.S.BackendSelection.rest_starts _) begins c.loop.invariant.0 _ _ _
    c.step-past.ensures.step

-- the walk that is stepped is one over the selector
pub step-requires : goal.step-requires
step-requires g c = c.loop.invariant.1

pub step-past-requires : goal.step-past-requires
step-past-requires g c = c.loop.invariant.1
