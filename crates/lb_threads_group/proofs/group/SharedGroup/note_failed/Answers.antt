-- The place is the slot's, and no other number's.
use Rattle.std.proofs.Common.{◌∙◌, Some, ap, subst, sym}
use Rattle.lb_rebuild_core.specs.SlotsHistory.{failed}
use Rattle.lb_threads_group.specs.Numbers.{SawOfSlot}
use Rattle.lb_threads_group.proofs.NumberLemmas.{failed_at}
use Rattle.lb_threads_group.proofs.group.SharedGroup.note_failed.Goals as goal

pub note-requires : goal.note-requires
note-requires g c =
    let core = ap (λ k. k.value.core) c.self.invariant.7 ∙ ap (λ v. v.core) c.self.view_is in
    failed_at c.self.inside.numbers.words.table.shared.key.value.core c.args.count c.in-Some.place c.args.slot c.in-Some.ensures
    (subst (λ site. SawOfSlot failed site c.args.slot (Some c.args.count)) (sym core) c.requires)
