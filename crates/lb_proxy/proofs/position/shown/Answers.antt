use Rattle.std.proofs.Common.{rules}
use Rattle.toml.specs.Errors.{IsMemory}
use Rattle.toml.specs.View.{table_view}
use Rattle.lb_proxy.specs.Config.{said}
use Rattle.lb_proxy.proofs.PositionLemmas.{shown_there, shown_none}
use Rattle.lb_proxy.proofs.position.shown.Goals as goal

pub returns-in-Ok-table_from_str-clause-shown : goal.returns-in-Ok-table_from_str-clause-shown
returns-in-Ok-table_from_str-clause-shown c =
    shown_there _ _ (said c.args.fault.now) (table_view c.in-Ok-table_from_str.table) c.is_shown.result c.in-Ok.ensures.cases.0
    c.in-Ok-table_from_str.ensures.ok c.is_shown.ensures

pub returns-in-Err-2-clause-shown : goal.returns-in-Err-2-clause-shown
returns-in-Err-2-clause-shown c =
    let others : ¬ (IsMemory c.in-Err.error) = search rules in
    shown_none _ _ (said c.args.fault.now) c.in-Ok.ensures.cases.0 (c.in-Err.ensures.refused others)
