use Rattle.lb_select_base.specs.Backends.{member_cmp, same_member}
use Rattle.lb_health_core.specs.RegistryEvents.{cell_events}
use Rattle.lb_health_core.proofs.LawLemmas.{health-commutes, table-commutes}
use Rattle.lb_health_core.proofs.laws.verdicts_commute.Goals as goal

pub returns-clause-state : goal.returns-clause-state
returns-clause-state g c =
    λ key_of events a b v w ne r. record {
      rule = r.rule;
      registered = r.registered;
      state = record {
        sets = r.state.sets;
        fits = r.state.fits;
        listed = r.state.listed;
        cells = table-commutes member_cmp (cell_events key_of events) a b v w c.args.registry.now.table ne r.state.cells;
        pruned = r.state.pruned;
      };
    }

pub returns-clause-health : goal.returns-clause-health
returns-clause-health g c = λ key_of events a b e v w ne. health-commutes same_member (cell_events key_of events) a b e v w ne
