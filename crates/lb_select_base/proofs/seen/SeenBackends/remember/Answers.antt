use Rattle.std.specs.Prelude.{refl}
use Rattle.std.proofs.Common.{sym, ◌∙◌}
use Rattle.lb_select_base.proofs.Turns.{come_more}
use Rattle.lb_select_base.proofs.seen.SeenBackends.remember.Goals as goal

pub returns-clause-remembered : goal.returns-clause-remembered
returns-clause-remembered c =
    come_more c.args.self.now c.in-Some.field-0 c.insert.new.self c.in_ok-identity.identity c.args.backend.now
    (sym c.take.ensures.value ∙ c.in-Some.is) (λ q. rw c.in_ok-identity.ensures refl) c.in_default-insert.ensures.updates
