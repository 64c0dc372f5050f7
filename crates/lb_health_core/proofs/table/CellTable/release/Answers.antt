use Rattle.std.proofs.Common.{◌∷◌, map, not, ap, ◌∙◌, rules}
use Rattle.std.proofs.lemmas.Fn.{filter_same}
use Rattle.lb_health_core.specs.declared.table.Held.{Held}
use Rattle.lb_health_core.specs.CellEvents.{Released, is_hold_of}
use Rattle.lb_health_core.specs.Table.{hold_of, table_value}
use Rattle.lb_health_core.proofs.ChangeLemmas.{map-filter}
use Rattle.lb_health_core.proofs.TableLemmas.{releasing}
use Rattle.lb_health_core.proofs.table.CellTable.release.Goals as goal

pub returns-clause-after : goal.returns-clause-after
returns-clause-after g c =
    λ events table.
    c.prune.ensures.after (Released c.args.view c.args.generation ∷ events)
    (releasing g.met.K.Ord.total events (table_value c.args.self.now) table c.args.view c.args.generation
    (map hold_of c.retain.new.self.items)
    (ap (map hold_of) (filter_same _ (λ (h : Held). not (is_hold_of c.args.view c.args.generation (hold_of h))) _
    (λ x b f' t. search rules) _ _ c.retain.ensures.filtered)
    ∙ map-filter hold_of (λ h. not (is_hold_of c.args.view c.args.generation h)) c.args.self.now.held.items))

pub returns-clause-pruned : goal.returns-clause-pruned
returns-clause-pruned g c =
    λ events table.
    c.prune.ensures.pruned (Released c.args.view c.args.generation ∷ events)
    (releasing g.met.K.Ord.total events (table_value c.args.self.now) table c.args.view c.args.generation
    (map hold_of c.retain.new.self.items)
    (ap (map hold_of) (filter_same _ (λ (h : Held). not (is_hold_of c.args.view c.args.generation (hold_of h))) _
    (λ x b f' t. search rules) _ _ c.retain.ensures.filtered)
    ∙ map-filter hold_of (λ h. not (is_hold_of c.args.view c.args.generation h)) c.args.self.now.held.items))
