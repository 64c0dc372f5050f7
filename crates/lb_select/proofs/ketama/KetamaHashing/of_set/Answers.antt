use Rattle.std.proofs.Common.{List, ℕ, sym, subst}
use Rattle.lb_select.specs.Sorted.{IsInOrder}
use Rattle.lb_select.proofs.Placing.{placed}
use Rattle.lb_select.proofs.ketama.KetamaHashing.of_set.Goals as goal

pub of-requires : goal.of-requires
of-requires c =
    let P : List (ℕ × ℕ) → Type 0 = λ es. IsInOrder es in
    let p = placed c.in_ok-backends.backends.items c.in_ok-backends.ensures.1 c.in_ok-owners.field-0.owners.items _
    c.in_ok-entries.entries.items (rw c.deref.ensures.value at c.in_ok-owners.ensures).filled
    (rw c.deref-2.ensures.value at c.in_ok-entries.ensures) in
    subst P (sym c.deref-3.ensures.value) p.order

pub invariant_of-result : goal.invariant_of-result
invariant_of-result c = record {
  placed = placed c.in_ok-backends.backends.items c.in_ok-backends.ensures.1 c.in_ok-owners.field-0.owners.items _
      c.in_ok-entries.entries.items (rw c.deref.ensures.value at c.in_ok-owners.ensures).filled
      (rw c.deref-2.ensures.value at c.in_ok-entries.ensures);
  indexed = rw c.deref-3.ensures.value at c.in_ok-index.ensures;
}
