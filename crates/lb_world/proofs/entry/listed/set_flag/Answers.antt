-- A setting of that identity is inserted as a member of it would be.
use Rattle.lb_world.proofs.Words.{◌∙◌, ap, bare_member, by_identity, insert_entry, member_cmp, nat_cmp, ordering_then, settings_of}
use Rattle.lb_world.proofs.Listed.{insert-seen}
use Rattle.lb_world.proofs.entry.listed.set_flag.Goals as goal

pub returns-clause-set : goal.returns-clause-set
returns-clause-set c =
    ap settings_of c.in_ok-insert.ensures.entries
    ∙ insert-seen _ (λ x y. ap (λ o. ordering_then o (nat_cmp x.1 y.1)) (c.address_order_law.ensures x.0 y.0)) c.args.settings.now.entries
    (c.in_ok-addr.addr, c.backend.inside.weight) c.args.on
    ∙ ap (λ k. insert_entry member_cmp (settings_of c.args.settings.now.entries) k c.args.on)
    (ap (λ x. bare_member c.backend.inside.weight x) c.in_ok-addr.ensures.cases ∙ ap by_identity c.backend.view_is)
