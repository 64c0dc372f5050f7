use Rattle.std.proofs.Common.{◌+◌, ◌≤◌, length, take, arith, sym, subst}
use Rattle.lb_proxy.specs.Relay.{wrote, Step}
use Rattle.lb_proxy.proofs.FlowLemmas.{seen, wrote_some}
use Rattle.lb_proxy.proofs.relay.Flow.consume.Goals as goal

pub returns-else-count-self : goal.returns-else-count-self
returns-else-count-self c =
    let a = c.self.inside in
    let within : a.end ≤ length a.buffer.items = omega (arith, c.self.invariant) in
    let most = subst (λ s. c.args.count ≤ length s.pending) (sym c.self.view_is) c.requires.within in
    subst (λ s. Step s (wrote (take c.args.count s.pending)) (seen a.buffer.items (a.start + c.args.count) a.end a.phase)) c.self.view_is
    (wrote_some a.buffer.items a.start a.end c.args.count a.phase c.self.invariant.0 within most c.if-count-self.false)
