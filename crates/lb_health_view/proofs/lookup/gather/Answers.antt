use Rattle.std.proofs.Common.{[], ◌∷◌, map, ap, Err}
use Rattle.std.specs.Net.ToAddrs.{host_addrs}
use Rattle.lb_health_view.specs.Lookups.{socket_answer}
use Rattle.lb_health_view.proofs.LookupLemmas.{cause_of_lookup, one_answer, refused_more}
use Rattle.lb_health_view.proofs.lookup.gather.Goals as goal

pub returns-in-Ok : goal.returns-in-Ok
returns-in-Ok g c = (
  map socket_answer (host_addrs c.in-Ok.addresses),
  λ s h. let (t, is, spelled) = c.in-Ok.ensures.spelled s h in rw is (ap (λ a. a ∷ []) (one_answer _ s t h spelled)),
  c.insert_all.ensures,
)

pub returns-in-Err : goal.returns-in-Err
returns-in-Err g c = (
  Err c.in-Err.refusal ∷ [],
  λ s h. absurd (c.in-Err.ensures.spelled s h),
  λ o members h. rw c.earlier.ensures
      (refused_more o members _ _ _ c.in-Err.refusal (cause_of_lookup c.in-Err.refusal c.in-Err.ensures.refused) h),
)
