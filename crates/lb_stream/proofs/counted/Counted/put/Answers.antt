use Rattle.std.proofs.Common.{rules}
use Rattle.lb_stream.specs.Counted.{inner_of}
use Rattle.lb_stream.proofs.StreamLemmas.{put_more, put_part, put_within}
use Rattle.lb_stream.proofs.counted.Counted.put.Goals as goal

pub loop-at-preserved : goal.loop-at-preserved
loop-at-preserved g c =
    record {
      within = put_within c.args.bytes.now c.loop-at.at c.in-Ok.n c.loop-at.invariant.within c.in-Ok.ensures.bound;
      written = put_more (g.W.Write.contents (inner_of c.args.self.now)) (g.W.Write.contents (inner_of c.loop-at.self))
          (g.W.Write.contents (inner_of c.write.new.self)) c.args.bytes.now c.loop-at.at c.in-Ok.n c.loop-at.invariant.written
          c.in-Ok.ensures.bytes;
      kept = search rules;
    }

pub returns-in-Err-clause-part : goal.returns-in-Err-clause-part
returns-in-Err-clause-part g c =
    put_part (g.W.Write.contents (inner_of c.args.self.now)) (g.W.Write.contents (inner_of c.loop-at.self))
    (g.W.Write.contents (inner_of c.write.new.self)) c.args.bytes.now c.loop-at.at c.loop-at.invariant.written c.in-Err.ensures.bytes
