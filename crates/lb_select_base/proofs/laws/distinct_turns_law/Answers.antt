use Rattle.lb_select_base.proofs.SelectionLaws.{turns_are_distinct}
use Rattle.lb_select_base.proofs.laws.distinct_turns_law.Goals as goal

pub returns : goal.returns
returns g c = turns_are_distinct _ _
