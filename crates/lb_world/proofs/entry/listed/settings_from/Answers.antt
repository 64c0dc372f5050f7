-- The marks, one after the other.
use Rattle.std.proofs.lemmas.List.{take_more}
use Rattle.lb_world.proofs.Words.{◌∷◌, ◌∙◌, ◌++◌, [], ap, marked, set_marked, settings_in, sym, take}
use Rattle.lb_world.proofs.Listed.{setting-more}
use Rattle.lb_world.proofs.entry.listed.settings_from.Goals as goal

pub loop-listing-preserved : goal.loop-listing-preserved
loop-listing-preserved c =
    let ls = c.args.listings.now in
    let i = c.loop-listing.listing-index in
    let item = c.listing-item.result in
    c.in_ok-set_mark.ensures.set ∙ ap (set_marked (marked item.backend item.mark)) c.loop-listing.invariant
    ∙ sym (setting-more (take i ls) item)
    ∙ ap settings_in (sym (take_more ls i item c.loop-listing-test.true ∙ ap (λ l. take i ls ++ l ∷ []) (sym c.listing-item.is)))
