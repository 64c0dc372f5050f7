use Rattle.lb_proxy.proofs.PoolFileLemmas.{unmarked}
use Rattle.lb_proxy.proofs.pool_file.strip_mark.Goals as goal

pub returns-in-None : goal.returns-in-None
returns-in-None c = unmarked c.args.content.now c.in-None.ensures.cases
