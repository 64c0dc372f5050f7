use Rattle.std.proofs.lemmas.Bool.{false≢true}
use Rattle.lb_proxy.proofs.HttpStepLemmas.{never_whole}
use Rattle.lb_proxy.proofs.http.body.Body.may_end.Goals as goal

pub returns-in-Sized : goal.returns-in-Sized
returns-in-Sized c = (λ never. absurd (false≢true never), λ whole. absurd (never_whole c.args.self.now c.in-Sized.is whole))
