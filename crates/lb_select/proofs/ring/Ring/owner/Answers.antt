use Rattle.std.proofs.Common.{◌≡◌, ℕ, ◌%◌, ◌<◌, List, length, get_or, sym, ap, subst, ◌∙◌, arith}
use Rattle.lb_select_base.specs.Seen.{address_seen}
use Rattle.lb_select_base.specs.declared.backend.SocketAddr.{SocketAddr}
use Rattle.lb_select.specs.Circle.{IsRingOwner}
use Rattle.lb_select.specs.Rings.{points_seen, Given}
use Rattle.lb_select.specs.Sorted.{turn_index}
use Rattle.lb_select.proofs.Owners.{owner_at}
use Rattle.lb_select.proofs.ring.Ring.owner.Goals as goal

pub returns : goal.returns
returns c =
    let es : List (ℕ × SocketAddr) = c.self.inside.points.entries.items in
    let inside : c.in_ok-at.at < length es = c.in_ok-at.ensures.0 in
    let some : 0 < length es = omega (arith, inside) in
    let e : ℕ × SocketAddr = c.index.result.now in
    let read : get_or es (turn_index c.first_from-first.result (c.args.j % length es) (length es)) e ≡ e
    = ap (λ k. get_or es k e) (sym c.in_ok-at.ensures.1) ∙ sym c.index.ensures in
    let P : ℕ × SocketAddr → Type 0 = λ z. IsRingOwner (Given (points_seen es)) c.args.place c.args.j (address_seen z.1) in
    rw (← c.self.view_is)
    (subst P read
    (owner_at address_seen es c.self.invariant.0 c.args.place (omega arith) c.first_from-first.result c.first_from-first.ensures.within
    c.first_from-first.ensures.splits some c.args.j e))
