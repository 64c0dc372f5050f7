use Rattle.lb_proxy.proofs.HttpFrameLemmas.{line_content}
use Rattle.lb_proxy.proofs.http.body.after_line.Goals as goal

pub returns-else-size-eq0 : goal.returns-else-size-eq0
returns-else-size-eq0 c = λ text. line_content c.args.size text c.if-size-eq0.false
