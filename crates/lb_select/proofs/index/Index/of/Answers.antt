use Rattle.std.proofs.Common.{arith}
use Rattle.lb_select.proofs.Indexing.{start_small, begun_none, begun_more, begun_all}
use Rattle.lb_select.proofs.index.Index.of.Goals as goal

pub overflow_cast-at : goal.overflow_cast-at
overflow_cast-at g c =
    let small = start_small c.args.entries.now c.requires.rises c.shift_of-shift.result c.loop-bucket.bucket c.start_from-at.result
    c.start_from-at.ensures
    (omega (arith, c.loop-bucket-test.true)) in
    omega (arith, small)

pub loop-bucket-init : goal.loop-bucket-init
loop-bucket-init g c = begun_none c.args.entries.now c.shift_of-shift.result c.in_ok-starts.starts.items c.in_ok-starts.ensures.items

pub loop-bucket-preserved : goal.loop-bucket-preserved
loop-bucket-preserved g c =
    begun_more c.args.entries.now c.shift_of-shift.result c.loop-bucket.bucket c.loop-bucket.at c.start_from-at.result
    c.loop-bucket.starts.items c.push.new.self.items
    c.loop-bucket.invariant c.start_from-at.ensures c.in_ok-push.ensures.items

pub returns : goal.returns
returns g c =
    begun_all c.args.entries.now c.shift_of-shift.result c.loop-bucket.bucket c.loop-bucket.at c.loop-bucket.starts.items
    c.loop-bucket.invariant
    c.shift_of-shift.ensures (omega arith)
