-- The job that is held is the last one, so it is awaited; its snapshot is released.
use Rattle.lb_world.proofs.Words.{◌∙◌, ap, arith, inl, meaning_of, refl, Some, Work, at-place}
use Rattle.lb_world.proofs.Entries.{next-refused, stays, beyond, does-build, does-fall, holds, left-so, own-task, unawaited, unstarted}
use Rattle.lb_world.proofs.entry.Entry.build.Goals as goal

pub returns-then-slot-len : goal.returns-then-slot-len
returns-then-slot-len g c =
    rw (← c.self.view_is) (λ h n b. next-refused b refl (inl (beyond b.is c.args.slot _ (omega arith))) (stays b.is))

pub returns-in_default : goal.returns-in_default
returns-in_default g c =
    rw (← c.self.view_is)
    (λ h n b.
    let at = at-place c.self.inside.works.items c.args.slot _ (omega arith) c.index_mut-place.ensures.value in
    left-so b c.args.slot at c.in_default.ensures.1 refl (inl (unstarted b.is c.args.slot _ _ at c.in_default.ensures.0)))

pub fail-requires : goal.fail-requires
fail-requires g c =
    let own = rw (← c.self.view_is) at c.requires.stands.is in
    let at = at-place c.self.inside.works.items c.args.slot _ (omega arith) c.index_mut-place.ensures.value ∙ ap Some c.in-Some.ensures.0 in
    let its = own-task own (holds own c.in-Some.job Work.building at refl) in
    let same = c.in-Err.ensures.failed.0 in
    record {
      own = rw same its.0;
      permit = rw same its.1;
      config = rw same its.2;
      gate = rw (← c.self.view_is) at c.requires.gate;
      registry = rw (← c.self.view_is) at c.requires.registry;
    }

pub unreachable-requires : goal.unreachable-requires
unreachable-requires g c =
    let own = rw (← c.self.view_is) at c.requires.stands.is in
    let at = at-place c.self.inside.works.items c.args.slot _ (omega arith) c.index_mut-place.ensures.value ∙ ap Some c.in-Some.ensures.0 in
    unawaited own (holds own c.in-Some.job Work.building at refl) (meaning_of g.S.BackendSelection) c.requires.stands.run refl
    (rw c.in-Err.ensures.failed.0 at (c.in-Err-fail.ensures.answers _ _ own.core_is).0)

pub returns-in-Ok : goal.returns-in-Ok
returns-in-Ok g c =
    rw (← c.self.view_is, c.generation-generation.ensures, c.hold.ensures)
    (λ h n b.
    let at = at-place c.self.inside.works.items c.args.slot _ (omega arith) c.index_mut-place.ensures.value ∙ ap Some c.in-Some.ensures.0 in
    let x = c.in-Ok.ensures.built in
    does-build b (holds b.is c.in-Some.job Work.building at refl) c.args.now c.in-Ok.built at x.0 x.1 x.2.0)

pub returns-in-Ok-fail : goal.returns-in-Ok-fail
returns-in-Ok-fail g c =
    rw (← c.self.view_is, c.generation-generation.ensures, c.in-Some.ensures.1)
    (λ h n b.
    let at = at-place c.self.inside.works.items c.args.slot _ (omega arith) c.index_mut-place.ensures.value ∙ ap Some c.in-Some.ensures.0 in
    let same = c.in-Err.ensures.failed.0 in
    does-fall b (holds b.is c.in-Some.job Work.building at refl) at
    (c.fail.ensures.site, rw same at (c.in-Ok-fail.ensures.stands _ _ b.is.core_is)) c.in-Ok-fail.ensures.gate
    (rw same at (c.in-Ok-fail.ensures.registry _ _ b.kept _ _ b.is.core_is), c.fail.ensures.one_registry) _ c.in-Err.ensures.failed.1)
