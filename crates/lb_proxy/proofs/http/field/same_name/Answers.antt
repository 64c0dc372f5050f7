use Rattle.lb_proxy.proofs.HttpFieldLemmas.{tested}
use Rattle.lb_proxy.proofs.http.field.same_name.Goals as goal

pub returns : goal.returns
returns c = tested c.args.name.now c.args.other.now c.eq_ignore_ascii_case.result c.eq_ignore_ascii_case.ensures.test
