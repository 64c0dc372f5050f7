-- What the slot answers, and the job that goes to its place.
use Rattle.lb_world.proofs.Words.{ap, arith, ask_told, meaning_of, refl, at-place}
use Rattle.lb_world.proofs.Entries.{does-grant, free-place, next-asked, next-unasked}
use Rattle.lb_world.proofs.entry.Entry.ask.Goals as goal

pub index_mut-place-requires : goal.index_mut-place-requires
index_mut-place-requires g c =
    let own = rw (← c.self.view_is) at c.requires.stands.is in
    omega (arith, own.works_in, (c.in-Ok.ensures.answers _ _ own.core_is).0)

pub hold-requires : goal.hold-requires
hold-requires g c =
    let own = rw (← c.self.view_is) at c.requires.stands.is in
    let a = rw c.in-Ok-granted.ensures at (c.in-Ok.ensures.answers _ _ own.core_is) in
    free-place own (meaning_of g.S.BackendSelection) c.requires.stands.run c.args.slot c.args.now _ _ a.1
    (at-place c.self.inside.works.items c.args.slot _ (omega (arith, own.works_in, a.0)) c.index_mut-place.ensures.value)

pub returns-in-Err : goal.returns-in-Err
returns-in-Err g c =
    rw (← c.self.view_is, c.in-Err.ensures.gate)
    (λ v h n b.
    let a = c.in-Err.ensures.answers _ _ b.is.core_is in
    next-unasked b _ a.0 a.1 (c.ask.ensures.site, c.in-Err.ensures.stands _ _ b.is.core_is))

pub returns-in-Err-granted : goal.returns-in-Err-granted
returns-in-Err-granted g c =
    rw (← c.self.view_is)
    (λ v h n b.
    next-asked b c.in-Ok.ask _ refl c.in-Err-granted.ensures (c.in-Ok.ensures.answers _ _ b.is.core_is)
    (c.ask.ensures.site, c.in-Ok.ensures.stands _ _ b.is.core_is) c.in-Ok.ensures.gate)

pub returns-in-Ok-granted : goal.returns-in-Ok-granted
returns-in-Ok-granted g c =
    rw (← c.self.view_is, c.generation-generation.ensures, c.hold.ensures)
    (λ v h n b.
    let a = c.in-Ok.ensures.answers _ _ b.is.core_is in
    does-grant b c.in-Ok.ask c.in-Ok-granted.job (ap ask_told c.in-Ok-granted.ensures) a (rw c.in-Ok-granted.ensures at a).2
    (c.ask.ensures.site, c.in-Ok.ensures.stands _ _ b.is.core_is)
    (at-place c.self.inside.works.items c.args.slot _ (omega (arith, b.is.works_in, a.0)) c.index_mut-place.ensures.value)
    c.in-Ok.ensures.gate)
