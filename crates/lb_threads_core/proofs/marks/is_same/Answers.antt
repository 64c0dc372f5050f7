-- Equal octets, ports and weights make one identity.
use Rattle.std.proofs.Common.{◌≡◌, ◌∙◌, ap, sym, true, false, not, Bool, ℕ, List, refl}
use Rattle.std.specs.Cmp.Lexicographic.{bytes_decides}
use Rattle.std.proofs.lemmas.Bool.{eqb-true}
use Rattle.lb_select_base.specs.Backends.{Member, ipv4, same_member}
use Rattle.lb_select_base.proofs.SameBackends.{same_by_identity}
use Rattle.lb_threads_core.proofs.marks.is_same.Goals as goal

not_false : (b : Bool) → false ≡ not b → b ≡ true
not_false true is = refl
not_false false is = absurd (cc)

same_v4 : (x y : Member) (os ps : List ℕ) (p q : ℕ) → x.address ≡ ipv4 os p → y.address ≡ ipv4 ps q → os ≡ ps → p ≡ q
    → x.weight ≡ y.weight → same_member x y ≡ true
same_v4 x y os ps p q own other octets ports weights =
    (same_by_identity x y).1
    (ap (λ a. (a, x.weight)) (own ∙ ap (λ l. ipv4 l p) octets ∙ ap (λ n. ipv4 ps n) ports ∙ sym other)
    ∙ ap (λ w. (y.address, w)) weights)

pub returns : goal.returns
returns c = λ same.
    same_v4 c.args.backend.now c.args.mark.now c.in-Some.octets.now c.in-Some-ipv4_of.others.now c.in-Some.port
    c.in-Some-ipv4_of.other_port
    (ap (λ m. m.address) (sym c.backend.view_is) ∙ c.in-Some.ensures)
    (ap (λ m. m.address) (sym c.mark.view_is) ∙ c.in-Some-ipv4_of.ensures)
    ((bytes_decides c.in-Some.octets.now c.in-Some-ipv4_of.others.now).0 (not_false _ c.if-ne.ensures))
    c.if-port-other_port.false
    (ap (λ m. m.weight) (sym c.backend.view_is) ∙ eqb-true _ _ same ∙ ap (λ m. m.weight) c.mark.view_is)
