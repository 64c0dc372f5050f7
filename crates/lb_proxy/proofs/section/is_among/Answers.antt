use Rattle.std.proofs.Common.{◌∙◌}
use Rattle.lb_proxy.proofs.FieldLemmas.{among_seen}
use Rattle.lb_proxy.proofs.section.is_among.Goals as goal

pub returns : goal.returns
returns c = c.contains.ensures.value ∙ among_seen (λ name. name.now) c.args.known.now c.args.name.now
