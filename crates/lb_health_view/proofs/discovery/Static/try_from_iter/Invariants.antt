use Rattle.std.proofs.Common.{List}
use Rattle.std.specs.List.{AllZip}
use Rattle.lb_health_view.specs.Lookups.{Answer, AreAnswers, Gathers, backends_of, cause_among}
use Rattle.lb_health_view.proofs.discovery.Static.try_from_iter.Given as goal

abbrev pub invariant-loop-text : goal.invariant-loop-text
invariant-loop-text g l =
    (all : List (List Answer)) × AllZip (λ t answers. AreAnswers t.now answers) l.yielded all
    × Gathers (cause_among all) (backends_of all) l.cause l.backends.keys
