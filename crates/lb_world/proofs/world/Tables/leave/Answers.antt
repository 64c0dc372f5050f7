-- A reader comes back to the group that it entered, whose slot counts it.
use Rattle.lb_world.proofs.Words.{◌∙◌, ap, arith, refl, Some, sym, at-place}
use Rattle.lb_world.proofs.Tables.{entry-of, counted, group-there, leave-gone, leave-nowhere, left-now}
use Rattle.lb_world.proofs.world.Tables.leave.Goals as goal

pub returns-then-reader-len : goal.returns-then-reader-len
returns-then-reader-len g c =
    λ h s. leave-nowhere s c.args.reader (omega arith)

pub returns-in_default : goal.returns-in_default
returns-in_default g c =
    let at = at-place c.args.self.now.readers.items c.args.reader _ (omega arith) c.index_mut-place.ensures.value in
    let gone = at ∙ ap Some (sym (rw c.in_default.is at c.replace-2.view_is ∙ c.replace.ensures.value)) in
    rw c.replace.ensures.after (λ h s. leave-gone s c.args.reader gone)

pub index_mut-entry-requires : goal.index_mut-entry-requires
index_mut-entry-requires g c =
    let at = at-place c.args.self.now.readers.items c.args.reader _ (omega arith) c.index_mut-place.ensures.value in
    let reader = at ∙ ap Some (sym (rw c.in-Some.is at c.replace-2.view_is ∙ c.replace.ensures.value)) in
    omega (arith, group-there c.requires.founded.stands c.args.reader _ reader)

pub leave-requires : goal.leave-requires
leave-requires g c =
    let at = at-place c.args.self.now.readers.items c.args.reader _ (omega arith) c.index_mut-place.ensures.value in
    let reader = at ∙ ap Some (sym (rw c.in-Some.is at c.replace-2.view_is ∙ c.replace.ensures.value)) in
    let in_ = entry-of c.requires.founded.stands c.args.reader _ reader refl c.index_mut-entry.ensures.value in
    let was = c.requires.founded.stands in
    record { own = was.own c.args.reader _ reader _ in_; counted = counted was c.args.reader _ _ reader in_ }

pub returns : goal.returns
returns g c =
    let at = at-place c.args.self.now.readers.items c.args.reader _ (omega arith) c.index_mut-place.ensures.value in
    let reader = at ∙ ap Some (sym (rw c.in-Some.is at c.replace-2.view_is ∙ c.replace.ensures.value)) in
    let in_ = entry-of c.requires.founded.stands c.args.reader _ reader refl c.index_mut-entry.ensures.value in
    rw (c.replace.ensures.after, c.generation-generation.ensures)
    (λ h s.
    left-now s c.args.reader _ _ c.leave.new.self reader in_ c.leave.ensures.rest c.leave.ensures.left)
