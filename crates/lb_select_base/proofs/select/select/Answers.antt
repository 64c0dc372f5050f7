use Rattle.std.proofs.Common.{sym}
use Rattle.std.specs.Fn.{FnReturnsAt}
use Rattle.lb_select_base.specs.Backends.{same_member}
use Rattle.lb_select_base.specs.Selections.{Selects, walks_of}
use Rattle.lb_select_base.proofs.Copies.{copied_holds}
use Rattle.lb_select_base.proofs.select.select.Goals as goal

pub returns : goal.returns
returns g c =
    rw (sym c.deref-of.ensures)
    (copied_holds
    (λ a. Selects same_member (λ b r. FnReturnsAt g.F.Fn c.args.accept.now b r) c.args.limit g.W.WordSource.gives
    (walks_of g.S.BackendSelection c.deref-of.result.now c.args.key.now) c.args.words.now a c.find-found.new.words)
    c.find-found.result c.copied_answer.result c.find-found.ensures c.copied_answer.ensures)
