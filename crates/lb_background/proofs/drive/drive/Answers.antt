-- Each round adds an event to the run's history.
use Rattle.std.proofs.Common.{◌∙◌, [], ◌∷◌, refl, subst}
use Rattle.lb_background.specs.History.{heard}
use Rattle.lb_background.specs.Driven.{Acts, ActsUnlessShut, Reads}
use Rattle.lb_background.proofs.DrivenLemmas.{has_begun}
use Rattle.lb_background.proofs.drive.drive.Goals as goal

pub loop-init : goal.loop-init
loop-init g c = ([], c.requires.fresh, refl, c.args.port.now, refl, (refl, refl))

pub returns-in-Return : goal.returns-in-Return
returns-in-Return g c =
    let i = c.loop.invariant in
    let m = g.M.Machine in
    let h = heard c.now-now.result c.reading-reading.result c.loop.event c.step-action.result ∷ i.0 in (
      h,
      subst (λ p. m.is_run p h) (c.step-action.ensures.plan ∙ i.2)
          (m.is_right c.step-action.new.self h (c.step-action.ensures.history i.0 i.1)),
      c.in-Return.is,
      (i.3, c.loop.port, i.4, i.5, (c.now-now.new.self, c.now-now.ensures, c.reading-reading.ensures)),
    )

pub act-event-requires : goal.act-event-requires
act-event-requires g c =
    let i = c.loop.invariant in
    let p = g.P.RunPort in
    let begun = has_begun (Reads p.moments p.readings)
    (ActsUnlessShut p.looks (Acts p.updates p.checks p.tells p.waits)) _ i.3 c.loop.port i.0 c.loop.event i.4 i.5 in
    record {
      more = c.in_default.not-Return;
      can = c.requires.can c.step-action.result (c.step-action.ensures.asked i.0 i.1 begun c.in_default.not-Return);
    }

pub loop-preserved : goal.loop-preserved
loop-preserved g c =
    let i = c.loop.invariant in
    let h = heard c.now-now.result c.reading-reading.result c.loop.event c.step-action.result ∷ i.0 in (
      h,
      c.step-action.ensures.history i.0 i.1,
      c.step-action.ensures.plan ∙ i.2,
      c.reading-reading.new.self,
      (i.3, c.loop.port, i.4, i.5, (c.now-now.new.self, c.now-now.ensures, c.reading-reading.ensures)),
      c.act-event.ensures,
    )
