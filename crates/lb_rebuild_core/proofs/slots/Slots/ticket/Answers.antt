-- The reader's slot is put back in its place.
use Rattle.std.proofs.Common.{arith, refl}
use Rattle.lb_rebuild_core.proofs.SlotsSteps.{facing, beyond, stays, site-of}
use Rattle.lb_rebuild_core.proofs.CallSteps.{tickets}
use Rattle.lb_rebuild_core.proofs.slots.Slots.ticket.Goals as goal

pub returns-then-slot-len-clause-answers : goal.returns-then-slot-len-clause-answers
returns-then-slot-len-clause-answers g c made h s =
    rw (beyond _ c.args.reader.now.slot c.self.view_is (omega (arith, c.slot-slot.ensures)) s) refl

pub returns-then-slot-len-clause-stands : goal.returns-then-slot-len-clause-stands
returns-then-slot-len-clause-stands g c made h s =
    rw (beyond _ c.args.reader.now.slot c.self.view_is (omega (arith, c.slot-slot.ensures)) s) s

pub invariant_of-self : goal.invariant_of-self
invariant_of-self g c =
    stays c.self.invariant c.self.view_is (λ made h s.
    (tickets (facing c.slot-slot.result c.index_mut.result.now c.ticket.new.self c.self.view_is (omega arith) c.index_mut.ensures.value s)
    c.args.reader.now.slot c.generation.result c.args.reader.now.generation c.ticket.result c.slot-slot.ensures c.generation.ensures
    c.ticket.ensures).1)

pub returns-clause-answers : goal.returns-clause-answers
returns-clause-answers g c made h s =
    (tickets (facing c.slot-slot.result c.index_mut.result.now c.ticket.new.self c.self.view_is (omega arith) c.index_mut.ensures.value s)
    c.args.reader.now.slot c.generation.result c.args.reader.now.generation c.ticket.result c.slot-slot.ensures c.generation.ensures
    c.ticket.ensures).0

pub returns-clause-stands : goal.returns-clause-stands
returns-clause-stands g c made h s =
    (tickets (facing c.slot-slot.result c.index_mut.result.now c.ticket.new.self c.self.view_is (omega arith) c.index_mut.ensures.value s)
    c.args.reader.now.slot c.generation.result c.args.reader.now.generation c.ticket.result c.slot-slot.ensures c.generation.ensures
    c.ticket.ensures).1

pub returns-clause-site : goal.returns-clause-site
returns-clause-site g c = site-of c.self.invariant c.self.view_is (returns-clause-stands g c)
