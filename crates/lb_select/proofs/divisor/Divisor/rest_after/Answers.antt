use Rattle.std.proofs.Common.{◌≡◌, ◌+◌, ◌*◌, ◌%◌, arith, subst, sym}
use Rattle.std.proofs.Math.Arith.{digits_mod}
use Rattle.std.proofs.Math.Nat.{add-mul}
use Rattle.lb_select.proofs.divisor.Divisor.rest_after.Goals as goal

pub returns-then-rest-self : goal.returns-then-rest-self
returns-then-rest-self c =
    let n = c.self.inside.number in
    let q = c.args.quotient in
    let rest = c.nearer-rest.result in
    let whole = c.in_ok-whole.ensures in
    let near = c.in_ok-near.ensures in
    let more = c.nearer-rest.ensures in
    let both : (q + more.0) * n ≡ q * n + more.0 * n = add-mul q more.0 n in
    let split : (q + more.0) * n + rest ≡ c.args.word = omega (arith, both, whole.1, near.0, near.1, more.1) in
    let left : ((q + more.0) * n + rest) % n ≡ rest = digits_mod (q + more.0) c.if-rest-self.true in
    rw (← c.self.view_is) (sym (subst (λ w. w % n ≡ rest) split left))
