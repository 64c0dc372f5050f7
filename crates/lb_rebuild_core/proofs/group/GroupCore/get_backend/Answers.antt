-- The newest membership of the view is the group's.
use Rattle.std.proofs.Common.{◌∙◌, length}
use Rattle.lb_rebuild_core.specs.GroupStates.{views_of}
use Rattle.lb_rebuild_core.proofs.Histories.{members-are}
use Rattle.lb_rebuild_core.proofs.Joins.{if-ok, view-part}
use Rattle.lb_rebuild_core.proofs.group.GroupCore.get_backend.Goals as goal

pub returns-clause-members : goal.returns-clause-members
returns-clause-members g c =
    if-ok c.get_backend.result _ _ c.get_backend.ensures.members
    (λ set f made e s. f (views_of made e) (view-part made e _ _ _ c.self.view_is s) ∙ members-are (length made.configs) e)
