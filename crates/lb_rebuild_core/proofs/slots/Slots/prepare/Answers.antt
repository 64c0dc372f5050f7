-- Each slot has its order, of the generation that would be the newest.
use Rattle.std.proofs.Common.{◌≡◌, ◌+◌, ◌∙◌, false, map, sym, ap, subst}
use Rattle.std.specs.Arc.{arc_value}
use Rattle.lb_select_base.specs.Memberships.{same_members}
use Rattle.lb_rebuild_core.specs.Internal.Fresh.{turn_of}
use Rattle.lb_rebuild_core.specs.SlotsCalls.{Fits}
use Rattle.lb_rebuild_core.specs.Orders.{order_for}
use Rattle.lb_rebuild_core.specs.SlotSeen.{slot_value}
use Rattle.lb_rebuild_core.specs.Values.{PreparedValue, SlotsValue}
use Rattle.lb_rebuild_core.proofs.Memberships.{changes, orders-map}
use Rattle.lb_rebuild_core.proofs.slots.Slots.prepare.Goals as goal

pub returns-clause-answers : goal.returns-clause-answers
returns-clause-answers g c made h s =
    let n = c.self.inside.newest in
    let xs = c.self.inside.slots.items in
    let next : c.in-Some.generation ≡ n + 1 = c.in-Some.ensures.1 in
    let turns : c.in_ok-turns.turns.items ≡ map (λ (x : _). turn_of n (slot_value x)) xs =
    rw (← c.deref-2.ensures.value) c.in_ok-turns.ensures in
    let other : same_members c.args.discovered.now.keys (arc_value c.self.inside.current).keys ≡ false =
    ap (λ (t : _). same_members c.args.discovered.now.keys t.keys) (sym c.deref.ensures) ∙ sym c.same_members.ensures
    ∙ c.if-same_members.false in
    let is = changes made h _ _ n _ _ c.args.discovered.now.keys _ _ xs c.args.self.now _ c.self.view_is s next c.in-Some.ensures.0
    c.if-self-2.false other turns in
    let members : (arc_value c.in_ok-members.members).keys ≡ c.args.discovered.now.keys = c.in_ok-members.ensures in
    (is.0, sym is.1, (rw (← is.1) at is.2), members, (rw (← is.1) at is.3))

pub returns-clause-fits : goal.returns-clause-fits
returns-clause-fits g c =
    let n = c.self.inside.newest in
    let xs = c.self.inside.slots.items in
    let next : c.in-Some.generation ≡ n + 1 = c.in-Some.ensures.1 in
    let slots : c.deref-3.result.now ≡ xs = c.deref-3.ensures.value in
    let each : c.in_ok-orders.orders.items ≡ map (λ (x : _). order_for c.in-Some.generation (arc_value c.in_ok-members.members).keys
    (slot_value x)) c.deref-3.result.now = c.in_ok-orders.ensures in
    let orders : c.in_ok-orders.orders.items ≡ map (λ (x : _). order_for (n + 1) (arc_value c.in_ok-members.members).keys (slot_value x))
    xs = rw (← slots, ← next) each in
    let prepared : PreparedValue g.row.S-Config.Denot =
    record {
      generation = c.in-Some.generation;
      members = (arc_value c.in_ok-members.members).keys;
      turns = c.in_ok-turns.turns.items;
      orders = c.in_ok-orders.orders.items;
    } in
    subst (λ (v : SlotsValue g.row.S-Config.Denot). Fits v prepared) c.self.view_is
    (record {
      generation = next;
      bounded = c.in-Some.ensures.0;
      live = c.if-self-2.false;
      orders = orders
          ∙ orders-map n (arc_value c.in_ok-members.members).keys xs;
    })
