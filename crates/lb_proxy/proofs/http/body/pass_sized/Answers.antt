use Rattle.lb_proxy.proofs.HttpStepLemmas.{sized_end, sized_more}
use Rattle.lb_proxy.proofs.http.body.pass_sized.Goals as goal

pub returns-then-left-bytes : goal.returns-then-left-bytes
returns-then-left-bytes c = sized_end c.args.left c.args.bytes.now c.if-left-eq0.false c.if-left-bytes.true

pub returns : goal.returns
returns c = sized_more c.args.left c.args.bytes.now c.requires c.if-left-bytes.false
