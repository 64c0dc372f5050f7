use Rattle.std.proofs.Common.{sym, ◌∙◌, ◌≡◌, ap, Some, rules}
use Rattle.lb_select_base.specs.Backends.{Member}
use Rattle.lb_select_base.specs.Loads.{entries_of, load_in}
use Rattle.lb_select_base.proofs.LoadTables.{same_loads, no_loads, load_set}
use Rattle.lb_select_base.proofs.loads.Loads.set.Goals.{in-Some, in-None}
use Rattle.lb_select_base.proofs.loads.Loads.set.Goals as goal

pub returns-in_err-identity : goal.returns-in_err-identity
returns-in_err-identity c = record { set = search rules; refused = search rules }

pub returns-in_err-inserted : goal.returns-in_err-inserted
returns-in_err-inserted c = record { set = search rules; refused = search rules }

pub returns : goal.returns
returns c =
    let old = c.self.inside.table in
    let table = c.match-take.table in
    let before : (q : Member) → load_in (entries_of old) q ≡ load_in table.entries q = elim c.match-take.branch [
      | in-Some w ↦ same_loads old table (sym c.take.ensures.value ∙ w.in-Some.is ∙ ap Some (sym w.table-is))
      | in-None w ↦ no_loads old table (sym c.take.ensures.value ∙ w.in-None.is) (rw w.table-is w.new-table.ensures.empty)
    ] in
    record {
      set = rw (← c.self.view_is)
          (load_set (entries_of old) table c.insert-inserted.new.self c.in_ok-identity.identity c.args.backend.now c.args.load before
          c.in_ok-identity.ensures c.in_ok-inserted.ensures.updates.0);
      refused = search rules;
    }
