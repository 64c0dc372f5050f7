-- Another membership is the next generation, and its word is raised to it; the same membership changes no word.
use Rattle.std.proofs.Common.{◌≡◌, ◌∙◌, [], length, length-set, sym, ap, refl, rules, Err}
use Rattle.lb_rebuild.specs.Pass.{WriterValue}
use Rattle.lb_rebuild.proofs.Words.{unscheduled, scheduled, raised_newest, quiet_call}
use Rattle.lb_rebuild.proofs.watched.Watched.schedule.Goals as goal

pub returns-clause-scheduled : goal.returns-clause-scheduled
returns-clause-scheduled g c = rw (← c.self.view_is) c.in_ok-scheduled.ensures

pub returns-then-scheduled-clause-scheduled : goal.returns-then-scheduled-clause-scheduled
returns-then-scheduled-clause-scheduled g c = rw (← c.self.view_is) c.in_ok-scheduled.ensures

pub returns-in_err-scheduled-clause-scheduled : goal.returns-in_err-scheduled-clause-scheduled
returns-in_err-scheduled-clause-scheduled g c =
    let is : c.from_residual.result ≡ Err c.in_err-scheduled.field-0.0 = search rules in
    rw (is, ← c.self.view_is) c.in_err-scheduled.ensures

pub invariant_of-self-then-scheduled : goal.invariant_of-self-then-scheduled
invariant_of-self-then-scheduled g c =
    let w = c.self.invariant in
    let words = ap (λ (x : WriterValue). x.words) c.raise.ensures in
    let r = scheduled c.schedule.new.self c.args.discovered.keys c.args.now c.in_ok-scheduled.scheduled c.past.ensures refl
    c.if-scheduled.true
    c.in_ok-scheduled.ensures.answers c.in_ok-scheduled.ensures.group in (
      ap (λ (x : WriterValue). x.board) c.raise.ensures ∙ w.0,
      raised_newest c.self.inside.core.group c.schedule.new.self.group c.self.inside.writer.words c.raise.new.pass.words
          c.in_ok-scheduled.scheduled.generation r w.1 words,
      w.2 ∙ sym (ap length words ∙ length-set c.self.inside.writer.words 0 _),
    )

pub invariant_of-self-else-scheduled : goal.invariant_of-self-else-scheduled
invariant_of-self-else-scheduled g c =
    let w = c.self.invariant in (
      w.0,
      w.1 ∙ sym (unscheduled c.schedule.new.self c.args.discovered.keys c.args.now c.in_ok-scheduled.scheduled c.past.ensures refl
          c.if-scheduled.false c.in_ok-scheduled.ensures.group),
      w.2,
    )

pub invariant_of-self : goal.invariant_of-self
invariant_of-self g c =
    let w = c.self.invariant in
    (w.0, w.1 ∙ sym (quiet_call (λ made e. []) c.past.ensures refl (λ made e. tt) c.in_err-scheduled.ensures.err), w.2)
