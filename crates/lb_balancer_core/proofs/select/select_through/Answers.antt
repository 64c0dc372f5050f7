use Rattle.lb_balancer_core.specs.Looks.{Answers}
use Rattle.lb_balancer_core.proofs.Visits.{selects_keep}
use Rattle.lb_balancer_core.proofs.select.select_through.Goals as goal

pub leave-requires : goal.leave-requires
leave-requires g c =
    selects_keep g.P.SelectPort.draws g.P.SelectPort.readies (λ b ready a. Answers g.F.Fn c.args.accept.now b ready a) c.args.max_iterations
    (g.S.BackendSelection.walks c.in-Ok.reader.members c.in-Ok.reader.config c.args.key.now) (λ x o. g.P.TakesReaders.owns_reader x o)
    (λ x o d y. g.met.P.SelectPort.draws_keep x o d y) (λ x o b a y. g.met.P.SelectPort.readies_keep x o b a y) _ _ c.in-Ok.reader _
    c.select_for-answer.ensures c.in-Ok.ensures.own
