use Rattle.std.proofs.Common.{rules, refl, ◌≡◌, ◌+◌, ◌∙◌, ap, sym}
use Rattle.std.specs.Prelude.{slice_get, Some}
use Rattle.std.proofs.lemmas.Option.{slice_get_read, same_Some}
use Rattle.lb_select_base.specs.Backends.{Member, address_cmp}
use Rattle.lb_select_base.specs.Seen.{address_seen}
use Rattle.lb_select.proofs.Standing.{stands_last, stands_test}
use Rattle.lb_select.proofs.fill.stands.Goals as goal

pub returns-in-Some : goal.returns-in-Some
returns-in-Some c = λ m h.
    let here : slice_get c.args.list.now c.args.index ≡ Some c.index-list-index.result =
    slice_get_read _ _ _ _ refl c.requires.inside c.index-list-index.is in
    let this : c.index-list-index.result ≡ m = same_Some _ _ (sym here ∙ h) in
    let next : slice_get c.args.list.now (c.args.index + 1) ≡ Some c.in-Some.next.now =
    slice_get_read _ _ _ _ refl c.in-Some.ensures.lookup.3.0 c.in-Some.ensures.lookup.1 in
    let tested : c.cmp.result ≡ address_cmp (address_seen c.this.inside.addr) (address_seen c.next.inside.addr) = search rules in
    let seen : c.cmp.result ≡ address_cmp m.address c.in-Some.next.now.address =
    tested ∙ ap (λ a. address_cmp a (address_seen c.next.inside.addr)) (ap (λ (z : Member). z.address) (c.this.view_is ∙ this))
    ∙ ap (address_cmp m.address) (ap (λ (z : Member). z.address) c.next.view_is) in
    stands_test c.args.list.now c.requires.ordered c.args.index m c.in-Some.next.now h next c.cmp.result seen c.ne.result c.ne.ensures

pub returns-in-None : goal.returns-in-None
returns-in-None c = λ m h. ((λ t. stands_last c.args.list.now c.requires.ordered c.args.index m h c.in-None.ensures.lookup.3), (λ s. refl))
