use Rattle.lb_proxy.proofs.TimeLemmas.{cut_is}
use Rattle.lb_proxy.proofs.section.cut.Goals as goal

pub returns : goal.returns
returns c = cut_is c.args.end.now c.args.text.now c.strip_suffix.result c.strip_suffix.ensures.cases
