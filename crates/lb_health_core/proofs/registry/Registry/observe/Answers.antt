use Rattle.std.proofs.Common.{List, ◌∷◌, ◌∙◌, map}
use Rattle.lb_select_base.specs.Backends.{Member, member_cmp}
use Rattle.lb_health_core.specs.CellEvents as cell
use Rattle.lb_health_core.specs.Registry.{IsRegistryAfter}
use Rattle.lb_health_core.specs.RegistryEvents.{Event, Observed, cell_events}
use Rattle.lb_health_core.specs.Table.{table_value, IsTableAfter, IsPruned}
use Rattle.lb_health_core.specs.Targets.{view_value}
use Rattle.lb_health_core.specs.Verdicts.{Verdict}
use Rattle.lb_health_core.proofs.StateLemmas.{if_ok, if_refused, on_both, seen}
use Rattle.lb_health_core.proofs.registry.Registry.observe.Goals as goal

pub returns-clause-observed : goal.returns-clause-observed
returns-clause-observed g c =
    let v : Verdict = record { ok = c.args.verdict; threshold = c.args.threshold } in
    let inside = c.self.inside in
    let step :
    ((es : List (cell.CellEvent Member)) → IsTableAfter member_cmp es (table_value inside.table)
    → IsPruned member_cmp es (table_value inside.table)
    → IsTableAfter member_cmp (cell.Observed c.args.cell v ∷ es) (table_value c.observe.new.self))
    → ((es : List (cell.CellEvent Member)) → IsPruned member_cmp es (table_value inside.table)
    → IsPruned member_cmp (cell.Observed c.args.cell v ∷ es) (table_value c.observe.new.self))
    → (key_of : Member → Member) (events : List Event) → IsRegistryAfter g.R.KeyRule.gives key_of events c.args.self.now
    → IsRegistryAfter g.R.KeyRule.gives key_of (Observed c.args.cell v ∷ events)
    (record {
      id = inside.id;
      rule = inside.rule;
      views = map view_value inside.views.items;
      registered = inside.registered;
      table = table_value c.observe.new.self;
    })
    = λ h only key_of events r.
    let now = seen g.R.KeyRule.gives key_of events _ _ c.self.view_is r in
    record {
      rule = now.rule;
      registered = now.registered;
      state = record {
        sets = now.state.sets;
        fits = now.state.fits;
        listed = now.state.listed;
        cells = h (cell_events key_of events) now.state.cells now.state.pruned;
        pruned = only (cell_events key_of events) now.state.pruned;
      };
    } in
    record {
      ok = on_both c.observe.result c.observe.ensures.after c.observe.ensures.pruned step;
      flipped = if_ok c.observe.result
          (λ flipped told key_of events r.
          let now = seen g.R.KeyRule.gives key_of events _ _ c.self.view_is r in
          told (cell_events key_of events) now.state.cells now.state.pruned) c.observe.ensures.flipped;
      kept = λ key_of events r.
          let now = seen g.R.KeyRule.gives key_of events _ _ c.self.view_is r in
          c.observe.ensures.kept (cell_events key_of events) now.state.cells now.state.pruned;
      err = if_refused c.observe.result c.observe.ensures.refused
          (λ told.
          (λ i. record {
            id = inside.id;
            rule = inside.rule;
            views = map view_value inside.views.items;
            registered = inside.registered;
            table = table_value (told.1 i);
          })
          ∙ c.self.view_is);
    }
