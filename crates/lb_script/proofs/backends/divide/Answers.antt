use Rattle.std.proofs.Common.{sym}
use Rattle.lb_script.proofs.BackendsLemmas.{divided_missing, divided_found}
use Rattle.lb_script.proofs.backends.divide.Goals as goal

pub returns-in-Some : goal.returns-in-Some
returns-in-Some c =
    sym (divided_found c.args.word.now c.in-Some.address.now c.in-Some.weight.now c.in-Some.ensures.cases)

pub returns-in-None : goal.returns-in-None
returns-in-None c = sym (divided_missing c.args.word.now c.in-None.ensures.cases)
