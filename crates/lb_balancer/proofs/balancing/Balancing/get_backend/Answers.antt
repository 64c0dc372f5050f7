-- The members are those of what was shown.
use Rattle.std.proofs.Common.{Result, Ok, Err, IfOk, rules}
use Rattle.lb_balancer.proofs.balancing.Balancing.get_backend.Goals as goal

if-ok : {A E : Type 0} {P Q : A → Type 0} (r : Result A E) → ((a : A) → P a → Q a) → IfOk r P → IfOk r Q
if-ok (Ok a) more holds = more a holds
if-ok (Err e) more holds = holds

pub returns-clause-members : goal.returns-clause-members
returns-clause-members g c =
    if-ok c.get_backend.result (λ set is. (c.deref.result.now, search rules, is)) c.get_backend.ensures.members
