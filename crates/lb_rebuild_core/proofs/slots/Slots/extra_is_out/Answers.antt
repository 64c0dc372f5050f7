-- The permit of the slot is that of the group's gate.
use Rattle.std.proofs.Common.{arith, ◌∙◌, sym}
use Rattle.lb_rebuild_core.proofs.SlotsSteps.{facing, count-is, gate-made, known, stays}
use Rattle.lb_rebuild_core.proofs.CallSteps.{permits, extra-shown}
use Rattle.lb_rebuild_core.proofs.slots.Slots.extra_is_out.Goals as goal

pub returns-then-slot-len-clause-out : goal.returns-then-slot-len-clause-out
returns-then-slot-len-clause-out g c made h s inside is = let count = count-is _ c.self.view_is s in absurd (omega (arith, inside, count))

pub extra_is_out-requires : goal.extra_is_out-requires
extra_is_out-requires g c =
    known c.self.invariant c.self.view_is (λ made h s.
    permits (facing c.args.slot c.index_mut.result.now c.index_mut.result.now c.self.view_is (omega arith) c.index_mut.ensures.value s) _
    (c.requires ∙ gate-made s))

pub invariant_of-self : goal.invariant_of-self
invariant_of-self g c =
    stays c.self.invariant c.self.view_is (λ made h s.
    let f = facing c.args.slot c.index_mut.result.now c.extra_is_out.new.self c.self.view_is (omega arith) c.index_mut.ensures.value s in
    f.same c.extra_is_out.ensures.slot)

pub returns-clause-out : goal.returns-clause-out
returns-clause-out g c made h s inside is =
    c.extra_is_out.ensures.out (extra-shown
    (facing c.args.slot c.index_mut.result.now c.extra_is_out.new.self c.self.view_is (omega arith) c.index_mut.ensures.value s) is)

pub returns-clause-same : goal.returns-clause-same
returns-clause-same g c = (
  known c.self.invariant c.self.view_is (λ made h s.
      let f = facing c.args.slot c.index_mut.result.now c.extra_is_out.new.self c.self.view_is (omega arith) c.index_mut.ensures.value s in
      (f.same c.extra_is_out.ensures.slot).shows ∙ sym s.shows),
  c.extra_is_out.ensures.gate,
)
