-- The oldest of the values that contracts see is that of what is stored.
use Rattle.std.proofs.Common.{◌∙◌, ap, sym, ◌==◌}
use Rattle.std.specs.List.{find}
use Rattle.std.specs.Option.{option_map}
use Rattle.lb_health_core.proofs.TableLemmas.{oldest_holds}
use Rattle.lb_health_core.proofs.table.CellTable.held_generation.Goals as goal

pub returns : goal.returns
returns g c =
    c.oldest_of.ensures
    ∙ ap (λ hs. option_map (λ h. h.generation) (find (λ h. h.view == c.args.view) hs)) c.deref.ensures.value
    ∙ sym (oldest_holds c.args.view c.args.self.now.held.items)
