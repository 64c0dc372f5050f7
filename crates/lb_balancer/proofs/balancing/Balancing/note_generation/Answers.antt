-- What is served is of the balancer that the number's key names.
use Rattle.std.proofs.Common.{◌∙◌, sym}
use Rattle.lb_balancer.proofs.Served.{known}
use Rattle.lb_balancer.proofs.balancing.Balancing.note_generation.Goals as goal

pub note-requires : goal.note-requires
note-requires g c = (c.args.serving.now.served, known (sym (c.self.invariant.2 ∙ c.self.view_is)) c.requires, c.generation.ensures)
