use Rattle.std.proofs.Common.{rules, ℕ, List, sym, subst}
use Rattle.std.specs.Cmp.Rules.{comparing}
use Rattle.lb_select_base.specs.Seen.{address_seen}
use Rattle.lb_select_base.specs.declared.backend.SocketAddr.{SocketAddr}
use Rattle.lb_select.specs.Sorted.{IsInOrder}
use Rattle.lb_select.proofs.Owners.{ring_of_kept}
use Rattle.lb_select.proofs.ring.Ring.of_points.Goals as goal

pub returns : goal.returns
returns c = ring_of_kept address_seen _ (λ x y. search (comparing, rules)) _ _ c.arrange.ensures

pub of_or_none-index-requires : goal.of_or_none-index-requires
of_or_none-index-requires c =
    let P : List (ℕ × SocketAddr) → Type 0 = λ es. IsInOrder es in
    subst P (sym c.deref-2.ensures.value)
    (record { rises = c.arrange.ensures.rises; small = rw c.deref.ensures.value at c.read_points.ensures })

pub invariant_of-result : goal.invariant_of-result
invariant_of-result c = (
  record { rises = c.arrange.ensures.rises; small = rw c.deref.ensures.value at c.read_points.ensures },
  rw c.deref-2.ensures.value at c.of_or_none-index.ensures,
)
