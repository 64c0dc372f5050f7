-- What cell and flag a group has for a backend, it has for each backend of its identity: the law of the words that say it.
use Rattle.std.proofs.Common.{◌≡◌, ℕ, Bool, true}
use Rattle.lb_select_base.specs.Backends.{Member, same_member}
use Rattle.lb_rebuild_core.specs.GroupStates.{views_of}
use Rattle.lb_threads_core.proofs.SameReadiness.{cell-same}
use Rattle.lb_threads_group.specs.Found.{FlaggedAt}
use Rattle.lb_threads_group.specs.Shared.{SharedValue}

pub flagged-at : {C R : Type 0} (site : SharedValue C R) (g : ℕ) (b m : Member) (c : ℕ) (enabled is_newest : Bool) → same_member b m ≡ true
    → FlaggedAt site g m c enabled is_newest → FlaggedAt site g b c enabled is_newest
flagged-at site g b m c enabled is_newest same (v, (state, has)) = (
  v,
  (
    state,
    λ made e stands.
        let told = has made e stands in
        (cell-same b m same (views_of made e) c enabled g told.0, told.1),
  ),
)
