-- The place is the slot's, and no other number's.
use Rattle.std.proofs.Common.{◌∙◌, Some, ap, subst, sym}
use Rattle.lb_rebuild_core.specs.SlotsHistory.{served}
use Rattle.lb_threads_group.specs.Numbers.{SawOfSlot}
use Rattle.lb_threads_group.proofs.NumberLemmas.{served_at}
use Rattle.lb_threads_group.proofs.group.SharedGroup.note_served.Goals as goal

pub note-requires : goal.note-requires
note-requires g c =
    let core = ap (λ k. k.value.core) c.self.invariant.7 ∙ ap (λ v. v.core) c.self.view_is in
    served_at c.self.inside.numbers.words.table.shared.key.value.core c.args.generation c.in-Some.place c.args.slot c.in-Some.ensures
    (subst (λ site. SawOfSlot served site c.args.slot (Some c.args.generation)) (sym core) c.requires)
