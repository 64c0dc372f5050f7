use Rattle.lb_proxy.proofs.HttpStepLemmas.{at_place}
use Rattle.lb_proxy.proofs.http.body.step.Goals as goal

pub returns-in-Sized : goal.returns-in-Sized
returns-in-Sized c = at_place c.args.place _ c.args.bytes.now c.pass_sized.result c.in-Sized.is c.pass_sized.ensures

pub returns-in-Content : goal.returns-in-Content
returns-in-Content c = at_place c.args.place _ c.args.bytes.now c.pass_content.result c.in-Content.is c.pass_content.ensures
