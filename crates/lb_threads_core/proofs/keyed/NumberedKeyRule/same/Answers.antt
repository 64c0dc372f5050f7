use Rattle.std.proofs.Common.{◌≡◌, ◌∙◌, refl, sym}
use Rattle.std.specs.Cmp.{unsigned_tied}
use Rattle.lb_select_base.specs.Backends.{same_member}
use Rattle.lb_health_core.specs.Keys.{by_number}
use Rattle.lb_threads_core.proofs.keyed.NumberedKeyRule.same.Goals as goal

pub returns : goal.returns
returns g c =
    λ key_of rule.
    let n = c.number.result in
    let m = c.number-2.result in
    let one : by_number n ≡ key_of c.args.backend.now = rule c.args.backend.now (by_number n) (n, c.number.ensures, refl) in
    let two : by_number m ≡ key_of c.args.other.now = rule c.args.other.now (by_number m) (m, c.number-2.ensures, refl) in
    sym (unsigned_tied n m) ∙ (λ i. same_member (one i) (two i))
