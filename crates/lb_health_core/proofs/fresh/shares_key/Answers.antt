use Rattle.std.proofs.Common.{◌≡◌, ◌∙◌, ◌||◌, ◌-◌, Bool, true, false, List, [], ◌∷◌, take, sym, ap, rules}
use Rattle.std.specs.List.{list_any}
use Rattle.lb_select_base.specs.Backends.{Member, same_member}
use Rattle.lb_health_core.proofs.FreshLemmas.{any-take, any-take-none, any-take-nil}
use Rattle.lb_health_core.proofs.fresh.shares_key.Goals as goal

pub returns-then-left-eq0 : goal.returns-then-left-eq0
returns-then-left-eq0 g c =
    λ key_of rule.
    let P : Member → Bool = λ m. same_member (key_of c.args.backend.now) (key_of m) in
    let rest = c.loop-other.other-iterator in
    sym (any-take-none P rest) ∙ ap (λ n. list_any P (take n rest)) (sym c.if-left-eq0.true) ∙ c.loop-other.invariant key_of rule

pub returns-then-same : goal.returns-then-same
returns-then-same g c =
    λ key_of rule.
    let P : Member → Bool = λ m. same_member (key_of c.args.backend.now) (key_of m) in
    let n = c.loop-other.left in
    let o = c.in-Some.other.now in
    let more = c.next.new.self in
    let step : c.loop-other.other-iterator ≡ o ∷ more = search rules in
    let first : P o ≡ true = sym (c.same.ensures key_of rule) ∙ c.if-same.true in
    sym (ap (λ b. b || list_any P (take (n - 1) more)) first) ∙ sym (any-take P n o more c.if-left-eq0.false)
    ∙ sym (ap (λ (ms : List Member). list_any P (take n ms)) step) ∙ c.loop-other.invariant key_of rule

pub loop-other-preserved : goal.loop-other-preserved
loop-other-preserved g c =
    λ key_of rule.
    let P : Member → Bool = λ m. same_member (key_of c.args.backend.now) (key_of m) in
    let n = c.loop-other.left in
    let o = c.in-Some.other.now in
    let more = c.next.new.self in
    let step : c.loop-other.other-iterator ≡ o ∷ more = search rules in
    let first : P o ≡ false = sym (c.same.ensures key_of rule) ∙ c.if-same.false in
    sym (ap (λ b. b || list_any P (take (n - 1) more)) first) ∙ sym (any-take P n o more c.if-left-eq0.false)
    ∙ sym (ap (λ (ms : List Member). list_any P (take n ms)) step) ∙ c.loop-other.invariant key_of rule

pub returns : goal.returns
returns g c =
    λ key_of rule.
    let P : Member → Bool = λ m. same_member (key_of c.args.backend.now) (key_of m) in
    let over : c.loop-other.other-iterator ≡ [] = search rules in
    sym (any-take-nil P c.loop-other.left) ∙ sym (ap (λ (ms : List Member). list_any P (take c.loop-other.left ms)) over)
    ∙ c.loop-other.invariant key_of rule
