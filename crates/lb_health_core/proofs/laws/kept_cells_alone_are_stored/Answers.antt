use Rattle.std.specs.Ordering.{eq_by_cmp, nat_cmp}
use Rattle.lb_select_base.specs.Backends.{member_cmp}
use Rattle.lb_health_core.specs.CellEvents.{verdicts_of, start_of}
use Rattle.lb_health_core.specs.RegistryEvents.{cell_events}
use Rattle.lb_health_core.specs.Starts.{value_at}
use Rattle.lb_health_core.specs.Verdicts.{IsHealthAfter}
use Rattle.lb_health_core.proofs.KeptLemmas.{some_is}
use Rattle.lb_health_core.proofs.laws.kept_cells_alone_are_stored.Goals as goal

pub returns : goal.returns
returns g c =
    λ key_of events d r. (
      r.state.pruned d,
      λ h.
          some_is (λ x. IsHealthAfter (start_of (eq_by_cmp member_cmp) d (cell_events key_of events))
          (verdicts_of d (cell_events key_of events)) x.health)
          (value_at nat_cmp c.args.registry.now.table.cells d) (r.state.cells.kept d h),
    )
