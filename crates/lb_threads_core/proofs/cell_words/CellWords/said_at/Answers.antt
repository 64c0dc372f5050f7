-- What the word says is known of the cell that it names.
use Rattle.std.proofs.Common.{subst}
use Rattle.lb_threads_core.specs.CellWords.{SaysOfCell}
use Rattle.lb_threads_core.proofs.CellLemmas.{is-told}
use Rattle.lb_threads_core.proofs.cell_words.CellWords.said_at.Goals as goal

pub returns-then-word-cell : goal.returns-then-word-cell
returns-then-word-cell g c =
    is-told g.R.KeyRule.gives c.args.self.now c.in_ok-word.word c.args.cell c.said_by.result
    (subst (λ start. SaysOfCell g.R.KeyRule.gives start c.in_ok-word.word) c.self.view_is c.in_ok-word.ensures)
    c.if-word-cell.true c.said_by.ensures
