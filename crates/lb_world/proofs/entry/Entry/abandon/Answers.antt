-- What is held built is the last job, so it is awaited.
use Rattle.lb_world.proofs.Words.{◌∙◌, ap, arith, inl, meaning_of, refl, Some, Work, at-place}
use Rattle.lb_world.proofs.Entries.{next-refused, stays, beyond, does-abandon, holds, left-so, own-task, unawaited, unbuilt}
use Rattle.lb_world.proofs.entry.Entry.abandon.Goals as goal

pub returns-then-slot-len : goal.returns-then-slot-len
returns-then-slot-len g c =
    rw (← c.self.view_is) (λ z v h n b. next-refused b refl (inl (beyond b.is c.args.slot _ (omega arith))) (stays b.is))

pub returns-in_default : goal.returns-in_default
returns-in_default g c =
    rw (← c.self.view_is)
    (λ z v h n b.
    let at = at-place c.self.inside.works.items c.args.slot _ (omega arith) c.index_mut-place.ensures.value in
    left-so b c.args.slot at c.in_default.ensures.1 refl (inl (unbuilt b.is c.args.slot _ _ at c.in_default.ensures.0)))

pub abandon-requires : goal.abandon-requires
abandon-requires g c =
    let own = rw (← c.self.view_is) at c.requires.stands.is in
    let at = at-place c.self.inside.works.items c.args.slot _ (omega arith) c.index_mut-place.ensures.value ∙ ap Some c.in-Some.ensures.0 in
    let its = own-task own (holds own c.in-Some.built.task (Work.built c.in-Some.built.ended) at refl) in
    record { own = its.0; permit = its.1; config = its.2 }

pub unreachable-requires : goal.unreachable-requires
unreachable-requires g c =
    let own = rw (← c.self.view_is) at c.requires.stands.is in
    let at = at-place c.self.inside.works.items c.args.slot _ (omega arith) c.index_mut-place.ensures.value ∙ ap Some c.in-Some.ensures.0 in
    unawaited own (holds own c.in-Some.built.task (Work.built c.in-Some.built.ended) at refl) (meaning_of g.S.BackendSelection)
    c.requires.stands.run refl (c.in-Err.ensures.answers _ _ own.core_is).0

pub returns : goal.returns
returns g c =
    rw (← c.self.view_is, c.generation-generation.ensures, c.in-Some.ensures.1)
    (λ z v h n b.
    let at = at-place c.self.inside.works.items c.args.slot _ (omega arith) c.index_mut-place.ensures.value ∙ ap Some c.in-Some.ensures.0 in
    does-abandon b (holds b.is c.in-Some.built.task (Work.built c.in-Some.built.ended) at refl) at
    (c.abandon.ensures.site, c.in-Ok.ensures.stands _ _ b.is.core_is))
