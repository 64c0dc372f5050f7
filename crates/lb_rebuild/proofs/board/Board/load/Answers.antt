-- A load keeps the rule whatever it finds.
use Rattle.std.proofs.Common.{◌≡◌, ◌∙◌, ◌<◌, sym, ap, arith, length, subst}
use Rattle.lb_rebuild.specs.Pass.{BoardId, PassValue, IsLoad}
use Rattle.lb_rebuild.proofs.BoardSteps.{loads_as, loaded_pass}
use Rattle.lb_rebuild.proofs.board.Board.load.Goals as goal

pub load-requires : goal.load-requires
load-requires c =
    let same : c.pass.inside.seat.table_id ≡ c.self.inside.table.shared.table_id =
    ap (λ (v : PassValue). v.board) c.pass.view_is ∙ c.requires.here ∙ sym c.self.view_is in
    let few = ap (λ (z : BoardId). z.words) c.self.view_is in
    (same, omega (arith, c.requires.word, few), loads_as _ _ _ _ _ c.pass.invariant.0)

pub returns : goal.returns
returns c =
    let e = c.load.ensures in
    let me = e.2.0 in
    let own = c.pass.invariant in
    let same = ap (λ (z : BoardId). z.words) (ap (λ (v : PassValue). v.board) c.pass.view_is ∙ c.requires.here) in
    let values : c.args.word < length c.pass.inside.seat.me.0.values = omega (arith, c.requires.word, own.2, same) in
    let loads : c.args.word < length c.pass.inside.seat.me.0.loads = omega (arith, c.requires.word, own.3, same) in
    let after : PassValue = record {
      board = c.load.new.seat.table_id;
      values = c.load.new.seat.me.0.values;
      loads = c.load.new.seat.me.0.loads;
    } in
    subst (λ (p : PassValue). IsLoad p c.args.word c.load.result after) c.pass.view_is
    (loaded_pass _ _ c.args.word c.load.result e.0 (ap (λ m. m.0.values) me) (ap (λ m. m.0.loads) me) values loads e.2.1)
