use Rattle.std.proofs.Common.{◌≡◌, true}
use Rattle.std.specs.Prelude.{IsSome, ◌⊎◌}
use Rattle.std.specs.List.{list_any}
use Rattle.lb_select_base.specs.Backends.{Member, same_member}
use Rattle.lb_health_view.specs.Snapshots.{value_at}
use Rattle.lb_health_view.specs.Views.{Flags}
use Rattle.lb_health_view.proofs.view.flag_all.Given as goal

abbrev pub invariant-loop-backend : goal.invariant-loop-backend
invariant-loop-backend l = record {
  flags : (q : Member) → Flags l.fn.flags.entries l.flags.entries q;
  all : (q : Member) → list_any (same_member q) l.members.keys ≡ true
      → IsSome (value_at l.flags.entries q) ⊎ (list_any (same_member q) l.backend-iterator ≡ true);
}
