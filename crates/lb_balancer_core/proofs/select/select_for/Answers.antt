use Rattle.lb_balancer_core.specs.Looks.{Answers, SelectsBy}
use Rattle.lb_select_base.proofs.Copies.{copied_holds}
use Rattle.lb_balancer_core.proofs.select.select_for.Goals as goal

pub returns : goal.returns
returns g c =
    copied_holds
    (λ a. SelectsBy (λ b ready a. Answers g.F.Fn c.args.accept.now b ready a) c.args.limit g.P.SelectPort.draws g.P.SelectPort.readies
    (g.S.BackendSelection.walks c.args.reader.now.members c.args.reader.now.config c.args.key.now) c.args.port.now c.args.reader.now a
    c.find_for-found.new.port)
    c.find_for-found.result c.copied_answer.result c.find_for-found.ensures c.copied_answer.ensures
