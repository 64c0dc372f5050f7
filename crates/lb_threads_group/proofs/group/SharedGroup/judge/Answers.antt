-- The words are of the group and of the reader's generation.
use Rattle.std.proofs.Common.{subst}
use Rattle.lb_threads_group.specs.Found.{ReadyAt}
use Rattle.lb_threads_group.proofs.group.SharedGroup.judge.Goals as goal

pub returns-in-Some : goal.returns-in-Some
returns-in-Some g c =
    let gives = g.R.KeyRule.gives in
    let b = c.args.backend.now in
    let ready = c.in-Some.finding.ready in
    subst (λ s. ReadyAt gives s c.args.reader.now.generation b ready) c.requires.found.0
    (subst (λ n. ReadyAt gives c.args.found.now.site n b ready) c.requires.found.1 c.in-Some.ensures.0)
