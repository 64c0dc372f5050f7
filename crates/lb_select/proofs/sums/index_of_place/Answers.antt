use Rattle.std.proofs.Common.{refl, ◌∙◌}
use Rattle.lb_select.proofs.Halves.{halved_more, halved_reads}
use Rattle.lb_select.proofs.sums.index_of_place.Goals as goal

pub loop-size-preserved : goal.loop-size-preserved
loop-size-preserved g c =
    let now = c.loop-size.invariant in
    let read = rw now.0 at c.read-sum.ensures.value in (
      c.read-sum.ensures.kept ∙ now.0,
      halved_more _ _ _ _ now.1 c.requires.rising c.requires.count c.loop-size-test.true refl read c.half_past-start.ensures.past
          c.half_past-start.ensures.before c.read-sum.ensures.counted,
    )

pub returns-clause-reads : goal.returns-clause-reads
returns-clause-reads g c = halved_reads c.loop-size.invariant.1 c.loop-size-test.false
