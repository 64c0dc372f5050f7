use Rattle.std.proofs.Common.{ℕ, ◌≤◌, subst}
use Rattle.std.proofs.lemmas.List.{get_or_default}
use Rattle.lb_select.specs.Buckets.{bucket_of}
use Rattle.lb_select.proofs.Indexing.{begins_there}
use Rattle.lb_select.proofs.index.start_from.Goals as goal

pub returns-else-entries-at : goal.returns-else-entries-at
returns-else-entries-at g c =
    begins_there c.args.entries.now c.requires.order.rises c.args.shift c.args.bucket c.loop-at.at c.loop-at.invariant.within
    c.loop-at.invariant.below
    (λ inside d. let P : ℕ × g.row.T.Denot → Type 0 = λ z. c.args.bucket ≤ bucket_of c.args.shift z.0 in
    subst P (get_or_default c.args.entries.now c.loop-at.at _ d inside) c.if-entries-at.false)
