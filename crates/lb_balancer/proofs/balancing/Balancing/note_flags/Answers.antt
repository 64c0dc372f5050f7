-- What lies under the lock is kept of this balancer.
use Rattle.std.proofs.Common.{◌∙◌}
use Rattle.lb_balancer.proofs.Kepts.{kept-of}
use Rattle.lb_balancer.proofs.balancing.Balancing.note_flags.Goals as goal

pub note_flags_in-requires-clause-kept : goal.note_flags_in-requires-clause-kept
note_flags_in-requires-clause-kept g c =
    let value = c.take-held.result.value in
    kept-of g.R.KeyRule.gives _ c.args.self.now value.shown value.ready (c.self.invariant.1 ∙ c.self.view_is) c.take-held.ensures.fact
