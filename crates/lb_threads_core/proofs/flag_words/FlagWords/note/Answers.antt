-- What is noted of a backend is said at its place.
use Rattle.std.proofs.Common.{◌∙◌, sym, subst}
use Rattle.lb_threads_core.proofs.FlagLemmas.{HasPlace, says-at, says-word}
use Rattle.lb_threads_core.proofs.flag_words.FlagWords.note.Goals as goal

pub store-requires : goal.store-requires
store-requires g c =
    let key = c.self.inside.words.table.shared.key in
    let told = g.I.FlagRule.told key.of.value in
    let place = c.in-Some-place_of.place in
    let same = c.as_slice.ensures.value ∙ sym c.self.invariant in
    let has = subst (λ marks. HasPlace marks place c.args.backend.now) same c.in-Some-place_of.ensures in
    let flagged = c.args.flagged in
    let is = subst (λ of. g.I.FlagRule.told of c.args.backend.now flagged.cell flagged.is_enabled flagged.is_newest) (sym c.self.view_is)
    c.requires in
    says-at told (g.I.FlagRule.by_identity key.of.value) key.marks.value.items place c.in-Some.word c.args.backend.now has
    (says-word (told c.args.backend.now) c.in-Some.word flagged.cell flagged.is_enabled flagged.is_newest c.in-Some.ensures.0
    c.in-Some.ensures.1 is)
