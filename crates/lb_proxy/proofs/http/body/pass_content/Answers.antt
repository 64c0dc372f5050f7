use Rattle.lb_proxy.proofs.HttpStepLemmas.{content_end, content_more}
use Rattle.lb_proxy.proofs.http.body.pass_content.Goals as goal

pub returns-then-left-bytes : goal.returns-then-left-bytes
returns-then-left-bytes c = content_end c.args.left c.args.bytes.now c.if-left-eq0.false c.if-left-bytes.true

pub returns : goal.returns
returns c = content_more c.args.left c.args.bytes.now c.requires c.if-left-bytes.false
