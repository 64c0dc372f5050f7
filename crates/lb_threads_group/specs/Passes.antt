-- What the calls that go with a pass over a group's board come to. The group is that of `site`; the pass was p before, and is q after.
use Rattle.std.specs.Prelude.{◌≡◌, ◌≤◌, ◌<◌, ◌+◌, ℕ, Bool, List, Result, Ok, IfOk, IfErr}
use Rattle.lb_rebuild.specs.Pass.{PassValue, IsLater, newest_of, served_of}
use Rattle.lb_rebuild_core.specs.Values.{ReaderValue}
use Rattle.lb_select_base.specs.Backends.{Member}
use Rattle.lb_select_base.specs.declared.refusal.Refusal.{Refusal}
use Rattle.lb_threads_group.specs.Group.{EnteredUnder, UpdatedUnder}
use Rattle.lb_threads_group.specs.Shared.{SharedValue, IsEntryRefusal}

-- The selector that a slot serves was entered, in the generation that the pass saw last, and the call answered r.
pub record IsEntryAt {C R : Type 0} (site : SharedValue C R) (slot : ℕ) (p : PassValue) (r : Result (ReaderValue C) Refusal)
    (q : PassValue) : Type 0 where
  -- such a slot is there, and the reader is in it, in the generation that the pass has seen it serve
  pub reader : IfOk r (λ reader. (slot + 1 < site.board.words) × (reader.slot ≡ slot) × (reader.generation ≡ served_of q slot))
  -- the reader is of this group
  pub own : IfOk r (λ reader. reader.group ≡ site.core.group.id)
  -- it entered at some state of this group
  pub entered : IfOk r (λ reader. EnteredUnder site.core slot (Ok reader))
  -- it is refused for its cause alone
  pub refused : IfErr r (IsEntryRefusal site.board slot)
  -- what the pass had seen stays seen
  pub later : IsLater p q

-- The group was updated by a discovery (d) and a clock, which was k before and is l after; the call answered r.
pub record IsUpdateAt {C R K D : Type 0} (gives : R → Member → Member → Type 0) (reads : K → ℕ → K → Type 0)
    (finds : D → Result (List Member × List (Member × Bool)) Refusal → Type 0) (d : D) (k : K) (site : SharedValue C R) (p : PassValue)
    (r : Result ℕ Refusal) (l : K) (q : PassValue) : Type 0 where
  -- what was found was scheduled at some state of this group
  pub updated : UpdatedUnder gives reads finds d k site r l
  -- the generation that is answered is not past what the pass has seen
  pub seen : IfOk r (λ g. g ≤ newest_of q)
  -- what the pass had seen stays seen
  pub later : IsLater p q
