use Rattle.std.proofs.Common.{◌≤◌, ◌∙◌, sym, ap, subst, drop, length, slice_range}
use Rattle.lb_stream.proofs.ReadAheadLemmas.{range_after}
use Rattle.lb_stream.proofs.read_ahead.ReadAhead.consume.Goals as goal

pub returns : goal.returns
returns c =
    let a = c.self.inside in
    let within : c.args.count ≤ length (slice_range a.bytes a.start a.end) =
    subst (λ (held : _). c.args.count ≤ length held) (sym c.self.view_is) c.requires in
    range_after a.bytes a.start a.end c.args.count within ∙ ap (drop c.args.count) c.self.view_is
