-- The job fails by what its refused build left.
use Rattle.std.proofs.Common.{◌∙◌, ℕ, ap, ap₂, subst, rules}
use Rattle.lb_select_base.specs.declared.refusal.Refusal.{Refusal}
use Rattle.lb_rebuild_core.specs.Values.{Task}
use Rattle.lb_balancer_core.specs.Through.{Fails}
use Rattle.lb_balancer_core.specs.declared.turn.Turn.TheVariants as turn
use Rattle.lb_balancer_core.proofs.turn.worker_turn.Goals as goal

pub returns-in-Err-build : goal.returns-in-Err-build
returns-in-Err-build g c =
    let end = c.now-end in
    let why = c.in-Err-build.ensures.refused in
    let fails : Fails g.S.BackendSelection.refusal g.K.MomentSource.reads g.K.EndSource.ends g.P.WorkPort.taken g.P.WorkPort.reported
    g.P.WorkPort.asked g.P.TakesBuilds.published g.P.TakesBuilds.failed c.args.slot c.in-Job.job c.ask.new.self c.now-now.new.self
    (turn.Failed c.generation.result c.refusal.result) c.fail.new.self end.new.self = (
      end.result,
      subst (λ (k : g.row.K.Denot). g.K.MomentSource.reads k end.result end.new.self) c.in-Err-build.ensures.unread end.ensures,
      c.in-Err-build.refused,
      c.fail.ensures,
      why.0,
      why.1,
      ap₂ (λ (n : ℕ) (e : Refusal). turn.Failed n e) (c.generation.ensures ∙ ap (λ (j : Task g.row.S-Config.Denot). j.generation) why.0)
          c.refusal.ensures.refusal,
    ) in
    search rules
