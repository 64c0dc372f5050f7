use Rattle.std.proofs.Common.{[], ◌∷◌, ◌++◌, None}
use Rattle.std.proofs.lemmas.List.Sums.{fold-append}
use Rattle.lb_health_view.specs.Lookups.{backends_of, cause_after, cause_among, with_answers}
use Rattle.lb_health_view.proofs.LookupLemmas.{text_more}
use Rattle.lb_health_view.proofs.discovery.Static.try_from_iter.Goals as goal

pub loop-text-preserved : goal.loop-text-preserved
loop-text-preserved g c =
    let (all, zipped, gathers) = c.loop-text.invariant in
    let (answers, are, more) = c.gather-cause.ensures in (
      all ++ answers ∷ [],
      text_more _ _ _ _ zipped are,
      rw (fold-append cause_after None all (answers ∷ []), fold-append with_answers [] all (answers ∷ []))
          (more (cause_among all) (backends_of all) gathers),
    )
