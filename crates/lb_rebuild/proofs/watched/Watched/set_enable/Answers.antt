-- It leaves the newest generation and what is served.
use Rattle.std.proofs.Common.{◌∙◌, sym, refl}
use Rattle.lb_rebuild.proofs.Words.{quiet_setting}
use Rattle.lb_rebuild.proofs.watched.Watched.set_enable.Goals as goal

pub invariant_of-self : goal.invariant_of-self
invariant_of-self g c =
    let w = c.self.invariant in
    (w.0, w.1 ∙ sym (quiet_setting c.past.ensures refl c.set_enable.ensures.stands), w.2)
