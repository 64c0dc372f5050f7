-- The slot serves what it was asked for when it is entered.
use Rattle.std.proofs.Common.{◌∙◌, ◌≡◌, rules, Err}
use Rattle.lb_threads_group.proofs.Entries.{founded_as, told_as, entered_ok, entered_err}
use Rattle.lb_threads_group.proofs.passes.enter_at.Goals as goal

pub returns-clause-found : goal.returns-clause-found
returns-clause-found g c =
    let here = c.core-core.ensures in
    let told =
    entered_ok c.in_ok-reader.reader (founded_as here c.past.ensures) (told_as here c.served.ensures) c.in-Some.is
    c.in_ok-reader.ensures.entered.answers in
    let same : c.in-Some.served ≡ c.args.found = search rules in
    let own : c.in_ok-reader.reader.group ≡ c.args.watched.now.core.group.id = search rules in
    (told.0, told.1 ∙ same, own)

pub returns-in_err-reader-clause-refused : goal.returns-in_err-reader-clause-refused
returns-in_err-reader-clause-refused g c =
    let here = c.core-core.ensures in
    let is : c.from_residual.result ≡ Err c.in_err-reader.field-0.0 = search rules in
    rw is (entered_err c.args.slot c.in_err-reader.field-0.0 (founded_as here c.past.ensures) (told_as here c.served.ensures) c.in-Some.is
    c.in_err-reader.ensures.entered.answers)
