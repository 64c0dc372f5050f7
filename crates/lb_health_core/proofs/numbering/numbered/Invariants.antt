use Rattle.std.proofs.Common.{◌≡◌, ◌<◌, ◌≤◌, ◌^◌, ℕ, List, ◌∷◌, take}
use Rattle.std.specs.Ordering.{nat_cmp}
use Rattle.lb_health_core.specs.Internal.Changing.{AreStored}
use Rattle.lb_health_core.specs.Starts.{value_at, IsNumbered}
use Rattle.lb_health_core.proofs.numbering.numbered.Given as goal

abbrev pub invariant-loop-key : goal.invariant-loop-key
invariant-loop-key g l =
    record {
      bound : l.before.next ≤ l.next;
      fits : l.next < 2 ^ 64;
      others : (c : ℕ) → c < l.before.next → value_at nat_cmp l.cells c ≡ value_at nat_cmp l.fn.cells c;
      numbered :
          (all : List (List g.row.K.Denot)) → IsNumbered g.K.Ord.cmp all l.before.by_key.entries l.before.next
          → IsNumbered g.K.Ord.cmp (take l.key-index l.keys ∷ all) l.by_key.entries l.next;
      stored :
          (all : List (List g.row.K.Denot)) (first : ℕ) → IsNumbered g.K.Ord.cmp all l.before.by_key.entries l.before.next
          → AreStored g.K.Ord.cmp first l.start all l.fn.cells
          → AreStored g.K.Ord.cmp first l.start (take l.key-index l.keys ∷ all) l.cells;
    }
