-- The set of the backends that are there has their members.
use Rattle.lb_world.proofs.Words.{◌∙◌, ap, not}
use Rattle.lb_world.proofs.Listed.{listed_members}
use Rattle.lb_world.proofs.entry.listed.differs.Goals as goal

pub returns : goal.returns
returns c = ap not (c.lists_members.ensures ∙ listed_members c.args.listings.now c.args.members.now.keys)
