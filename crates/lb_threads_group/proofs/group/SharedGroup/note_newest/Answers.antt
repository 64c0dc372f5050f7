-- The first place is no slot's.
use Rattle.std.proofs.Common.{◌∙◌, ap, refl, subst, sym}
use Rattle.lb_threads_group.specs.Numbers.{SawNewest}
use Rattle.lb_threads_group.proofs.NumberLemmas.{newest_at}
use Rattle.lb_threads_group.proofs.group.SharedGroup.note_newest.Goals as goal

pub note-requires : goal.note-requires
note-requires g c =
    let core = ap (λ k. k.value.core) c.self.invariant.7 ∙ ap (λ v. v.core) c.self.view_is in
    newest_at c.self.inside.numbers.words.table.shared.key.value.core c.args.generation 0 refl
    (subst (λ site. SawNewest site c.args.generation) (sym core) c.requires)
