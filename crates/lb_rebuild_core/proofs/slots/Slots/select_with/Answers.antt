-- The slot that was selected from is put back in its place.
use Rattle.std.proofs.Common.{arith, ◌≤◌, refl, length}
use Rattle.std.proofs.lemmas.Option.{slice_get_past}
use Rattle.std.specs.Fn.{FnReturnsAt}
use Rattle.lb_select_base.specs.Loads.{load_in}
use Rattle.lb_rebuild_core.proofs.Pasts.{lt-false}
use Rattle.lb_rebuild_core.proofs.SlotsSteps.{facing, count-is, site-of}
use Rattle.lb_rebuild_core.proofs.CallSteps.{selects, selected-stands}
use Rattle.lb_rebuild_core.proofs.slots.Slots.select_with.Goals as goal

pub returns-then-slot-len-clause-answers : goal.returns-then-slot-len-clause-answers
returns-then-slot-len-clause-answers g c made h s =
    let few : length made.configs ≤ c.args.slot = omega (arith, count-is _ c.self.view_is s) in
    rw (slice_get_past made.configs c.args.slot few) (refl, refl, refl)

pub returns-then-slot-len-clause-stands : goal.returns-then-slot-len-clause-stands
returns-then-slot-len-clause-stands g c made h s =
    let few : length made.configs ≤ c.args.slot = omega (arith, count-is _ c.self.view_is s) in
    rw (lt-false c.args.slot (length made.configs) few) s

pub invariant_of-self : goal.invariant_of-self
invariant_of-self g c =
    let p = c.self.invariant in (
      p.0,
      (
        _,
        selected-stands (facing c.args.slot c.index_mut.result.now c.select.new.self refl (omega arith) c.index_mut.ensures.value
            p.1.1) c.select.result c.select.ensures.slot,
      ),
    )

pub returns-clause-answers : goal.returns-clause-answers
returns-clause-answers g c made h s =
    selects (facing c.args.slot c.index_mut.result.now c.select.new.self c.self.view_is (omega arith) c.index_mut.ensures.value s)
    g.S.BackendSelection.may_draw_random g.S.BackendSelection.walks (λ b a. FnReturnsAt g.F.Fn c.args.accept.now b a)
    (load_in c.args.loads.now)
    c.args.key.now c.args.limit c.args.random.now c.select.result c.select.ensures.selected

pub returns-clause-stands : goal.returns-clause-stands
returns-clause-stands g c made h s =
    selected-stands (facing c.args.slot c.index_mut.result.now c.select.new.self c.self.view_is (omega arith) c.index_mut.ensures.value s)
    c.select.result c.select.ensures.slot

pub returns-clause-site : goal.returns-clause-site
returns-clause-site g c = site-of c.self.invariant c.self.view_is (returns-clause-stands g c)
