use Rattle.std.proofs.lemmas.Bool.{false≢true}
use Rattle.lb_proxy.proofs.HttpStepLemmas.{never_ended}
use Rattle.lb_proxy.proofs.http.body.Body.is_done.Goals as goal

pub returns-in-Sized : goal.returns-in-Sized
returns-in-Sized c = (λ never. absurd (false≢true never), λ ended. absurd (never_ended c.args.self.now c.in-Sized.is ended))
