-- What is noted of a cell is said by the word that names it.
use Rattle.std.proofs.Common.{sym, subst}
use Rattle.lb_threads_core.specs.CellWords.{WasHealthy}
use Rattle.lb_threads_core.proofs.CellLemmas.{tells-word}
use Rattle.lb_threads_core.proofs.cell_words.CellWords.put.Goals as goal

pub store-requires : goal.store-requires
store-requires g c =
    let key = c.self.inside.words.table.shared.key in
    tells-word g.R.KeyRule.gives key.value.table.shared.key.value c.word_of.result c.args.cell c.args.healthy c.word_of.ensures.0
    c.word_of.ensures.1
    (subst (λ start. WasHealthy g.R.KeyRule.gives start c.args.cell c.args.healthy) (sym c.self.view_is) c.requires)
