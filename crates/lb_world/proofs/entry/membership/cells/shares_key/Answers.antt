-- The listings one by one: one that has the key, and one that hasn't.
use Rattle.lb_world.proofs.Words.{◌||◌, ◌∷◌, ◌∙◌, ◌+◌, ap, at_drop_more, Bool, drop, List, Listing, lists_key, sym}
use Rattle.lb_world.proofs.entry.membership.cells.shares_key.Goals as goal

pub returns-then-has_same_key : goal.returns-then-has_same_key
returns-then-has_same_key c =
    λ key_of events r.
    let has : List Listing → Bool = lists_key key_of (key_of c.args.backend.now) in
    let i = c.loop-listing.listing-index in
    let rest = drop (i + 1) c.args.listings.now in
    sym (sym (c.loop-listing.invariant key_of events r)
    ∙ at_drop_more has c.args.listings.now i c.listing-item.result c.loop-listing-test.true
    ∙ ap (λ l. has (l ∷ rest)) (sym c.listing-item.is)
    ∙ ap (λ b. b || has rest) (sym (c.has_same_key.ensures key_of events r) ∙ c.if-has_same_key.true))

pub loop-listing-preserved : goal.loop-listing-preserved
loop-listing-preserved c =
    λ key_of events r.
    let has : List Listing → Bool = lists_key key_of (key_of c.args.backend.now) in
    let i = c.loop-listing.listing-index in
    let rest = drop (i + 1) c.args.listings.now in
    sym (ap (λ b. b || has rest) (sym (c.has_same_key.ensures key_of events r) ∙ c.if-has_same_key.false))
    ∙ sym (ap (λ l. has (l ∷ rest)) (sym c.listing-item.is))
    ∙ sym (at_drop_more has c.args.listings.now i c.listing-item.result c.loop-listing-test.true) ∙ c.loop-listing.invariant key_of events r
