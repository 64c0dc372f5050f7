-- The group has the number that its core was made with; before that the registry was seen to be full, or not to be.
use Rattle.std.proofs.Common.{None, ap, refl, rules}
use Rattle.lb_select_base.specs.Refusals.{memory_apart}
use Rattle.lb_select_base.specs.declared.refusal.Refusal.TheVariants.{NumbersExhausted, OutOfMemory}
use Rattle.lb_health_core.proofs.StateLemmas.{if_ok}
use Rattle.lb_rebuild_core.specs.GroupStates.{GroupValue}
use Rattle.lb_threads_core.proofs.Registrations.{apart-from, behind-with, lost-with, refused-as, refused-with, seen-at}
use Rattle.lb_threads_core.proofs.Registrations.{seen-full, seen-left}
use Rattle.lb_balancer_group.proofs.making.opened.Goals as goal

pub returns-in-Err-clause-view : goal.returns-in-Err-clause-view
returns-in-Err-clause-view g c =
    refused-with _ NumbersExhausted refl
    (λ apart numbers. seen-at (search rules) (seen-full c.is_full.ensures c.if-is_full.true))
    (λ apart memory. absurd (apart-from NumbersExhausted memory refl))

pub returns-in-Err-2-clause-view : goal.returns-in-Err-2-clause-view
returns-in-Err-2-clause-view g c =
    lost-with _ OutOfMemory refl refl (λ apart.
    seen-at (search rules) (seen-left c.is_full.ensures c.if-is_full.false))

pub returns-in_err-core-clause-view : goal.returns-in_err-core-clause-view
returns-in_err-core-clause-view g c =
    refused-as (search rules) (λ apart. ap memory_apart {y = None} (search rules)) _ _ c.make.ensures.view
    c.from_residual.result c.in_err-core.field-0.0 c.in_err-core.was (search rules)

pub returns-clause-view : goal.returns-clause-view
returns-clause-view g c =
    behind-with (search rules) (λ apart. ap memory_apart {y = None} (search rules)) _ _ c.make.ensures.view c.in_ok-core.core
    c.in_ok-core.was c.share.result
    (if_ok c.share.result (λ b is. ap (λ (v : GroupValue g.row.S-Config.Denot). v.view.id) is.0) c.share.ensures.made)
    c.share.ensures.refused
