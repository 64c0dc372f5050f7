-- One lane more has the key.
use Rattle.std.proofs.Common.{◌≡◌, ◌∷◌, [], ◌++◌, length, ap, length-append, arith}
use Rattle.std.proofs.lemmas.List.Elements.{All-push, All-same}
use Rattle.lb_threads_core.specs.declared.lane.Lane.{Lane}
use Rattle.lb_threads_core.proofs.lanes.Lanes.new.Goals as goal

pub loop-preserved : goal.loop-preserved
loop-preserved g c =
    let keyed : Lane g.row.X.Denot g.row.X-Tag.Denot → Type 0 = λ lane. lane.slot ≡ c.args.key.now in
    let lanes = c.loop.lanes.items in
    let more = c.in_ok-push.ensures.items in
    record {
      keyed = All-same keyed c.push.new.self.items (lanes ++ c.new.result ∷ []) more
          (All-push keyed lanes c.new.result c.loop.invariant.keyed c.new.ensures);
      counted = omega (arith, simp length-append at (ap length more));
    }
