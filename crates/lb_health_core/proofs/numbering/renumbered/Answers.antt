use Rattle.std.proofs.Common.{arith, refl, sym, ◌∙◌}
use Rattle.std.proofs.lemmas.Bool.{false≢true}
use Rattle.lb_health_core.proofs.NumberLemmas.{starting}
use Rattle.lb_health_core.proofs.numbering.renumbered.Goals as goal

pub returns-then-are_too_many-clause-exhausted : goal.returns-then-are_too_many-clause-exhausted
returns-then-are_too_many-clause-exhausted g c =
    λ all n. (
      λ e. omega (arith, starting g.met.K.Ord.total all _ _ c.args.keys.now n, c.are_too_many.ensures.0 c.if-are_too_many.true),
      λ l. refl,
    )

pub returns-clause-exhausted : goal.returns-clause-exhausted
returns-clause-exhausted g c =
    λ all n. (
      λ e. c.numbered.ensures.exhausted e all n,
      λ l. absurd (false≢true (sym c.if-are_too_many.false
          ∙ c.are_too_many.ensures.1 (omega (arith, starting g.met.K.Ord.total all _ _ c.args.keys.now n, l)))),
    )
