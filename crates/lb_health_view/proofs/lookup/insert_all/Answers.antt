-- The addresses that a loop over them yields are all that there are.
use Rattle.std.proofs.Common.{◌≡◌, List, map, refl, sym, subst, ap, ◌∙◌}
use Rattle.std.specs.Array.Iter.{array_into_iter_items, array_steps}
use Rattle.std.specs.Iterator.Adapters.{take_count, take_source}
use Rattle.std.specs.Net.ToAddrs.{host_addrs}
use Rattle.std.specs.declared.net.socket_addr.SocketAddr.{SocketAddr}
use Rattle.std.proofs.lemmas.Iterator.{YieldsList-from_take}
use Rattle.std.proofs.lemmas.Iterator.Consumers.{YieldsList-from_shown, YieldsList-end}
use Rattle.std.proofs.lemmas.List.{map-id}
use Rattle.lb_health_view.specs.Lookups.{Gathers, cause_after, socket_answer, with_answers}
use Rattle.lb_health_view.proofs.LookupLemmas.{one_more}
use Rattle.lb_health_view.proofs.lookup.insert_all.Goals as goal

pub loop-address-init : goal.loop-address-init
loop-address-init c = λ o members h. h

pub loop-address-preserved : goal.loop-address-preserved
loop-address-preserved c = λ o members h.
    rw (c.earlier-cause.ensures, c.err.ensures.value)
    (one_more o _ members _ _ c.loop-address.yielded c.in-Some.address c.insert.result c.insert.ensures
    (c.loop-address.invariant o members h))

pub returns : goal.returns
returns c =
    let it = c.into_iter-address-iterator.result in
    let source = YieldsList-from_shown array_steps (λ x. x) array_into_iter_items (λ s t h. h.0) (λ s x t h. h) (take_source it) in
    let ended = YieldsList-end (YieldsList-from_take (take_count it) source refl) c.loop-address.yielded _ c.loop-address.yielded_by _ _
    c.in-None.is c.next.ensures.steps in
    let all : c.loop-address.yielded ≡ host_addrs c.args.addresses = sym (map-id c.loop-address.yielded) ∙ ended.0
    ∙ ap host_addrs c.into_iter-address-iterator.ensures.into_iter_gives in
    λ o members h. subst (λ (ys : List SocketAddr). Gathers (cause_after o (map socket_answer ys))
    (with_answers members (map socket_answer ys)) c.loop-address.cause c.loop-address.backends.keys)
    all (c.loop-address.invariant o members h)
