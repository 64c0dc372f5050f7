-- The pass writes, and no served word gets past the newest one; the step is counted.
use Rattle.std.proofs.Common.{◌≡◌, ◌≢◌, ◌≤◌, ◌<◌, ◌∙◌, ℕ, length, sym, ap, arith, rules, subst}
use Rattle.std.specs.List.{slice_index}
use Rattle.lb_rebuild.specs.Pass.{BoardId, WriterValue}
use Rattle.lb_rebuild.proofs.BoardSteps.{raises_as, total_set}
use Rattle.lb_rebuild.proofs.board.Board.raise.Goals as goal

pub fetch_max-requires : goal.fetch_max-requires
fetch_max-requires c =
    let own = c.pass.invariant in
    let same : c.pass.inside.seat.table_id ≡ c.self.inside.table.shared.table_id =
    ap (λ (v : WriterValue). v.board) c.pass.view_is ∙ c.requires.here ∙ sym c.self.view_is in
    let few = ap (λ (z : BoardId). z.words) c.self.view_is in (
      same,
      omega (arith, c.requires.word, few),
      raises_as _ _ _ _ _ _ own.0 own.1 (λ apart. subst (λ (v : WriterValue). c.args.generation ≤ slice_index v.words 0)
          (sym c.pass.view_is) (c.requires.led apart)),
    )

pub returns : goal.returns
returns c =
    let same = ap (λ (v : WriterValue). v.board) c.pass.view_is ∙ c.requires.here in
    let there : c.args.word < length c.pass.inside.seat.me.0.loads =
    omega (arith, c.requires.word, c.pass.invariant.3, ap (λ (z : BoardId). z.words) same) in
    let more = total_set c.pass.inside.seat.me.0.loads c.args.word there in
    search rules
