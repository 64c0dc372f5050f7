-- What was taken in is the update, and its refusal the update's.
use Rattle.std.proofs.Common.{◌≡◌, ◌∙◌, Ok, ap, rules}
use Rattle.std.specs.BTreeSet.{BTreeSet}
use Rattle.std.specs.Fn.{FnOnceReturnsAt}
use Rattle.lb_select_base.specs.Backends.{Member}
use Rattle.lb_threads_core.proofs.Updates.{no-fault, refusal-of, refused-for, updated-other, updated-same}
use Rattle.lb_threads_core.proofs.backends.Backends.update.Goals as goal

pub returns-in-Ok-true-clause-updated : goal.returns-in-Ok-true-clause-updated
returns-in-Ok-true-clause-updated g c =
    let newest = c.in-Ok-true.ensures.newest c.in-Ok-true.field-0-test in
    let shown = c.show.ensures in
    updated-other g.D.ServiceDiscovery.finds c.args.self.now (search rules) (search rules) c.take_in.ensures.state c.take_in.ensures.taken
    (λ members t. (set : BTreeSet Member) × (set.keys ≡ members) × FnOnceReturnsAt g.F.FnOnce c.args.changed set t)
    c.show.result (c.in-Ok-true.is ∙ ap Ok c.in-Ok-true.field-0-test) (shown.0, shown.1 newest.0 newest.1 ∙ newest.2, shown.2)

pub returns-in-Ok-false-clause-updated : goal.returns-in-Ok-false-clause-updated
returns-in-Ok-false-clause-updated g c =
    updated-same g.D.ServiceDiscovery.finds c.args.self.now (search rules) (search rules) c.take_in.ensures.state c.take_in.ensures.taken
    (λ members t. (set : BTreeSet Member) × (set.keys ≡ members) × FnOnceReturnsAt g.F.FnOnce c.args.changed set t)
    (c.in-Ok-false.is ∙ ap Ok c.in-Ok-false.field-0-test)

pub returns-in-Err-clause-refused : goal.returns-in-Err-clause-refused
returns-in-Err-clause-refused g c = refusal-of c.in-Err.refusal c.in-Err.ensures.refused

pub returns-in-Err-clause-fault : goal.returns-in-Err-clause-fault
returns-in-Err-clause-fault g c fault = absurd (no-fault c.in-Err.refusal c.in-Err.ensures.refused fault)

pub returns-in-Err-clause-causes : goal.returns-in-Err-clause-causes
returns-in-Err-clause-causes g c =
    refused-for g.D.ServiceDiscovery.finds c.args.self.now (search rules) (search rules) c.take_in.ensures.state c.take_in.ensures.taken
    c.in-Err.refusal c.in-Err.is
