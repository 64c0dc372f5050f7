use Rattle.std.proofs.Common.{List, Option, map}
use Rattle.lb_select_base.specs.Backends.{Member}
use Rattle.lb_select_base.specs.declared.refusal.Refusal.{Refusal}
use Rattle.lb_health_view.specs.Lookups.{Gathers, cause_after, socket_answer, with_answers}
use Rattle.lb_health_view.proofs.lookup.insert_all.Given as goal

abbrev pub invariant-loop-address : goal.invariant-loop-address
invariant-loop-address l =
    (c : Option Refusal) (members : List Member) → Gathers c members l.fn.earlier_cause l.fn.backends.keys
    → Gathers (cause_after c (map socket_answer l.yielded)) (with_answers members (map socket_answer l.yielded)) l.cause l.backends.keys
