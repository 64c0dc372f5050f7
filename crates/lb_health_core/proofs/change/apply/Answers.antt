use Rattle.std.proofs.Common.{List, map, not, sym, ap, ◌∙◌, rules}
use Rattle.std.proofs.lemmas.Fn.{filter_same}
use Rattle.lb_health_core.specs.declared.targets.View.{View}
use Rattle.lb_health_core.specs.RegistryEvents.{cell_events}
use Rattle.lb_health_core.specs.Table.{table_value}
use Rattle.lb_health_core.specs.Targets.{view_value, live, target_keys}
use Rattle.lb_health_core.proofs.CountLemmas.{unmarked_applied}
use Rattle.lb_health_core.proofs.StateLemmas.{applied}
use Rattle.lb_health_core.proofs.change.apply.Goals as goal

pub returns-clause-ok : goal.returns-clause-ok
returns-clause-ok g c =
    λ key_of events rule state.
    applied key_of events c.args.views.now.items c.retain.new.self.items c.deref-3.result.now (table_value c.args.table.now)
    (table_value c.change.new.self) state
    (filter_same _ (λ (v : View). not v.marked) _ (λ x b f' t. search rules) _ _ c.retain.ensures.filtered)
    (c.deref-3.ensures.value ∙ c.in_ok-keys.ensures.ok key_of rule
    ∙ ap (λ (vs : List View). target_keys key_of (live (map view_value vs))) c.deref-2.ensures.value)
    (c.in_ok-change.ensures.ok (cell_events key_of events) state.cells)
    (c.in_ok-change.ensures.pruned (cell_events key_of events) state.cells)

pub returns-then-not-has_marks-clause-ok : goal.returns-then-not-has_marks-clause-ok
returns-then-not-has_marks-clause-ok g c =
    λ key_of events rule state.
    unmarked_applied key_of events c.args.views.now.items c.deref.result.now (table_value c.args.table.now) state c.deref.ensures.value
    (sym c.has_marks.ensures ∙ (search rules))
