use Rattle.std.proofs.Common.{◌≡◌, ◌∙◌, ℕ, List, Option, IfSome, None, Some, sym, ap, subst, rules}
use Rattle.lb_select_base.specs.AddressText.{bare_member}
use Rattle.lb_select_base.specs.Backends.{Address, Member, ipv4, identity_of}
use Rattle.lb_select_base.specs.Seen.{address_seen}
use Rattle.lb_health_view.specs.Internal.Hints.{AreHints}
use Rattle.lb_health_view.specs.Snapshots.{value_at}
use Rattle.lb_health_view.proofs.HintLemmas.{found_by_identity}
use Rattle.lb_health_view.proofs.cells.Cells.hinted.Goals as goal

-- what a hint tells of these entries holds of the entries that contracts see
told_of : (entries seen : List (Member × ℕ)) (b : Member) (a : Address) (w : ℕ) (o : Option ℕ) → entries ≡ seen → (a, w) ≡ identity_of b
    → IfSome o (λ cell. value_at entries (bare_member w a) ≡ Some cell) → IfSome o (λ cell. value_at seen b ≡ Some cell)
told_of entries seen b a w None view is told = tt
told_of entries seen b a w (Some cell) view is told =
    ap (λ (es : List (Member × ℕ)). value_at es b) (sym view) ∙ found_by_identity entries b a w is ∙ told

pub returns-in-Some : goal.returns-in-Some
returns-in-Some c =
    let a = ipv4 c.in-Inet-V4.octets c.in-Inet-V4.port in
    let entries = c.self.inside.by_backend.entries in
    let seen : address_seen c.identity-weight.result.0.now ≡ a = search rules in
    let is = ap (λ (p : Address). (p, c.identity-weight.result.1)) (sym seen) ∙ c.identity-weight.ensures in
    let hints : AreHints entries c.as_slice-hints.result.now =
    subst (AreHints entries) (sym c.as_slice-hints.ensures.value) c.self.invariant in
    told_of entries c.args.self.now c.args.backend.now a c.identity-weight.result.1 (Some c.in-Some.cell) c.self.view_is is
    (c.in-Some.ensures entries hints)

pub returns-in-None : goal.returns-in-None
returns-in-None c =
    let a = ipv4 c.in-Inet-V4.octets c.in-Inet-V4.port in
    let entries = c.self.inside.by_backend.entries in
    let seen : address_seen c.identity-weight.result.0.now ≡ a = search rules in
    let is = ap (λ (p : Address). (p, c.identity-weight.result.1)) (sym seen) ∙ c.identity-weight.ensures in
    let hints : AreHints entries c.as_slice-hints.result.now =
    subst (AreHints entries) (sym c.as_slice-hints.ensures.value) c.self.invariant in
    told_of entries c.args.self.now c.args.backend.now a c.identity-weight.result.1 c.told-in-None.result c.self.view_is is
    (c.told-in-None.ensures entries hints)
