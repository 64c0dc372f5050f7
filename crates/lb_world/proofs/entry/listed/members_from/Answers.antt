-- The backends that are there, one after the other.
use Rattle.lb_world.proofs.Words.{◌∙◌, ap, map-id, members_in, sym, with_key, YieldsList-end, YieldsList-from_vec}
use Rattle.lb_world.proofs.Listed.{member-more}
use Rattle.lb_world.proofs.entry.listed.members_from.Goals as goal

pub loop-listing-init : goal.loop-listing-init
loop-listing-init c = record { gathered = c.new-members.ensures.empty }

pub loop-listing-preserved : goal.loop-listing-preserved
loop-listing-preserved c =
    record {
      gathered =
          c.in_ok-gather.ensures.set ∙ ap (with_key c.in-Some.listing.backend) c.loop-listing.invariant.gathered
          ∙ sym (member-more c.loop-listing.yielded c.in-Some.listing);
    }

pub returns-clause-set : goal.returns-clause-set
returns-clause-set c =
    let gives = c.into_iter-listing-iterator.ensures.into_iter_gives in
    let all =
    YieldsList-end
    (YieldsList-from_vec c.args.listings.items gives.0 (gives.1 ∙ c.args.listings.ok.0)) c.loop-listing.yielded
    c.loop-listing.listing-iterator c.loop-listing.yielded_by c.next.result c.next.new.self c.in-None.is c.next.ensures.steps in
    let taken = sym (map-id c.loop-listing.yielded) ∙ all.0 in
    c.loop-listing.invariant.gathered ∙ ap members_in taken
