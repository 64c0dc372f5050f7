use Rattle.lb_script.proofs.BackendsLemmas.{unmarked}
use Rattle.lb_script.proofs.backends.strip_mark.Goals as goal

pub returns-in-None : goal.returns-in-None
returns-in-None c = unmarked c.args.word.now c.in_default.ensures.cases c.in-None.ensures.cases
