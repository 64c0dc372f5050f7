-- The word that is written has its fact.
use Rattle.std.proofs.Common.{arith}
use Rattle.lb_threads_core.proofs.WordSteps.{writes}
use Rattle.lb_threads_core.proofs.words.KeyedWords.store.Goals as goal

pub swap_new_seat-requires : goal.swap_new_seat-requires
swap_new_seat-requires g c = (
  omega (arith, c.args.self.now.counted, c.if-place-self.true),
  writes (g.I.WordRule.holds c.args.self.now.table.shared.key) c.args.self.now.table.shared.key _ c.args.place c.args.word c.requires,
)
