use Rattle.std.proofs.Common.{sym, ◌∙◌, refl}
use Rattle.lb_select_base.proofs.Turns.{turning_none, turning_more, turn_ended, turn_at_limit, turn_found, turn_refused}
use Rattle.lb_select_base.proofs.unique.UniqueIterator.get_next.Goals as goal

pub loop-candidate-init : goal.loop-candidate-init
loop-candidate-init g c = turning_none _ _ _ _

pub returns-in_default : goal.returns-in_default
returns-in_default g c = turn_ended _ _ _ _ c.loop-candidate.invariant (rw c.in_default.is at c.next.follows.holds-at-none)

pub returns-then-self : goal.returns-then-self
returns-then-self g c = turn_at_limit _ _ c.in-Some.candidate.now _ _ c.loop-candidate.invariant
    (rw c.in-Some.is at c.next.follows.holds-at-none) c.if-self.true

pub returns-in_err-found : goal.returns-in_err-found
returns-in_err-found g c = turn_refused _ _ c.in-Some.candidate.now _ c.loop-candidate.self.seen _ _ c.loop-candidate.invariant
    (rw c.in-Some.is at c.next.follows.holds-at-none) (sym c.contains.ensures ∙ c.if-not-contains.true) c.if-self.false
    (λ q. refl) c.from_residual.ensures.1

pub returns-in_err-remember : goal.returns-in_err-remember
returns-in_err-remember g c = turn_refused _ _ c.in-Some.candidate.now _ c.remember.new.self _ _ c.loop-candidate.invariant
    (rw c.in-Some.is at c.next.follows.holds-at-none) (sym c.contains.ensures ∙ c.if-not-contains.true) c.if-self.false
    c.in_err-remember.ensures.refused c.from_residual-in_err-remember.ensures.1

pub returns-then-not-contains : goal.returns-then-not-contains
returns-then-not-contains g c = rw c.in_ok-found.ensures.cases
    (turn_found _ _ c.in-Some.candidate.now _ c.remember.new.self _ c.loop-candidate.invariant
    (rw c.in-Some.is at c.next.follows.holds-at-none) (sym c.contains.ensures ∙ c.if-not-contains.true) c.if-self.false
    c.in_ok-remember.ensures.remembered)

pub loop-candidate-preserved : goal.loop-candidate-preserved
loop-candidate-preserved g c = turning_more _ _ c.in-Some.candidate.now _ _ c.loop-candidate.invariant
    (rw c.in-Some.is at c.next.follows.holds-at-none) (sym c.contains.ensures ∙ c.if-not-contains.false) c.if-self.false
