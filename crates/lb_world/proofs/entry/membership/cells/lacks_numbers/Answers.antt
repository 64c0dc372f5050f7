-- The numbers that are left are enough for the listings, or for the keys that they start, or for neither.
use Rattle.lb_world.proofs.Words.{arith, live, lt-ltb, ltb-true, views_after}
use Rattle.lb_world.proofs.Listed.{given-then, keys-le}
use Rattle.lb_world.proofs.entry.membership.cells.lacks_numbers.Goals as goal

pub returns-then-listings-left : goal.returns-then-listings-left
returns-then-listings-left c =
    λ key_of events id r has.
    let given = given-then key_of events id _ c.args.listings.now r has in
    let left = c.numbers_left-left.ensures key_of events r in
    let counted = c.starting_count.ensures key_of events r in (
      λ more. omega (arith, ltb-true c.numbers_left-left.result c.starting_count.result more, given, left, counted),
      λ lacking. lt-ltb c.numbers_left-left.result c.starting_count.result (omega (arith, lacking, given, left, counted)),
    )

pub returns-else-listings-left : goal.returns-else-listings-left
returns-else-listings-left c =
    λ key_of events id r has.
    let given = given-then key_of events id _ c.args.listings.now r has in
    let left = c.numbers_left-left.ensures key_of events r in
    let few = keys-le key_of (live (views_after events)) c.args.listings.now in (
      λ more. omega (arith, ltb-true c.numbers_left-left.result _ more, c.if-listings-left.false),
      λ lacking. absurd (omega (arith, c.if-listings-left.false, few, given, left, lacking)),
    )
