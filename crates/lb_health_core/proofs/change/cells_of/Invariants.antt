use Rattle.std.proofs.Common.{◌≡◌, true, List, fold}
use Rattle.std.specs.BTreeMap.{insert_entry}
use Rattle.std.specs.List.{filter_map, list_any}
use Rattle.lb_select_base.specs.Backends.{Member, member_cmp, same_member}
use Rattle.lb_health_core.specs.Keys.{IsRuleOf}
use Rattle.lb_health_core.specs.Registry.{HasOwnCells}
use Rattle.lb_health_core.specs.RegistryEvents.{cell_pair, cells_by}
use Rattle.lb_health_core.specs.Starts.{IsNumbered}
use Rattle.lb_health_core.proofs.change.cells_of.Given as goal

abbrev pub invariant-loop-backend : goal.invariant-loop-backend
invariant-loop-backend g l = record {
  told : (key_of : Member → Member) (all : List (List Member)) → IsRuleOf g.R.KeyRule.gives l.rule key_of
      → IsNumbered member_cmp all l.numbering.by_key.entries l.numbering.next
      → fold (λ entries p. insert_entry member_cmp entries p.0 p.1) l.cells.entries (filter_map (cell_pair key_of all) l.backend-iterator)
      ≡ cells_by key_of all l.members.keys;
  own : HasOwnCells l.members.keys l.cells.entries;
  rest : (b : Member) → list_any (same_member b) l.backend-iterator ≡ true → list_any (same_member b) l.members.keys ≡ true;
}
