use Rattle.std.proofs.Common.{◌≡◌, ◌∙◌, IfSome, sym, ap, rules}
use Rattle.std.proofs.lemmas.List.Elements.{All-set}
use Rattle.lb_select_base.specs.Backends.{Address, ipv4}
use Rattle.lb_select_base.specs.Seen.{address_seen}
use Rattle.lb_health_view.specs.Internal.Hints.{IsHint}
use Rattle.lb_health_view.proofs.HintLemmas.{found_by_identity}
use Rattle.lb_health_view.proofs.cells.note.Goals as goal

pub returns-then-place-len : goal.returns-then-place-len
returns-then-place-len c = λ entries all found.
    let a = ipv4 c.in-Inet-V4.octets c.in-Inet-V4.port in
    let seen : address_seen c.identity-weight.result.0.now ≡ a = search rules in
    let is = ap (λ (p : Address). (p, c.identity-weight.result.1)) (sym seen) ∙ c.identity-weight.ensures in
    All-set (λ o. IfSome o (IsHint entries)) c.args.hints.now.items c.free_place-place.result _
    (sym (found_by_identity entries c.args.backend.now a c.identity-weight.result.1 is) ∙ found) all
