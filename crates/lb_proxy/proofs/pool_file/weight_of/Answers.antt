use Rattle.std.proofs.Common.{◌∙◌, sym}
use Rattle.lb_proxy.proofs.PoolFileLemmas.{parsed_weight, signed_weight}
use Rattle.lb_proxy.proofs.pool_file.weight_of.Goals as goal

pub returns-then-has_plus : goal.returns-then-has_plus
returns-then-has_plus c = signed_weight c.args.word.now (sym c.has_plus.ensures ∙ c.if-has_plus.true)

pub returns-else-has_plus : goal.returns-else-has_plus
returns-else-has_plus c =
    c.ok.ensures.value ∙ parsed_weight c.args.word.now c.parse.result c.parse.ensures.value.0 (sym c.has_plus.ensures ∙ c.if-has_plus.false)
