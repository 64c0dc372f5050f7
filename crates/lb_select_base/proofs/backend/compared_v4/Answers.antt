use Rattle.std.proofs.Common.{◌≡◌, arith, ◌∙◌, ap, nat_cmp, ℕ, ◌*◌, ◌+◌}
use Rattle.std.specs.Int.{w32, from_be_bytes}
use Rattle.std.specs.Ordering.{ordering_then}
use Rattle.lb_select_base.proofs.Octets.{four_octets, two_digits}
use Rattle.lb_select_base.proofs.backend.compared_v4.Goals as goal

pub returns : goal.returns
returns c =
    let x : ℕ = from_be_bytes w32 c.args.octets.now in
    let y : ℕ = from_be_bytes w32 c.args.others.now in
    let p : ℕ = c.args.port in
    let q : ℕ = c.args.other_port in
    let number : c.from.result * 65536 + c.from-2.result ≡ x * 65536 + p = omega (
      arith,
      c.from.ensures,
      c.from_be_bytes.ensures,
      c.from-2.ensures,
    ) in
    let other : c.from-3.result * 65536 + c.from-4.result ≡ y * 65536 + q = omega (
      arith,
      c.from-3.ensures,
      c.from_be_bytes-2.ensures,
      c.from-4.ensures,
    ) in
    c.cmp.ensures ∙ ap (λ n. nat_cmp n (c.from-3.result * 65536 + c.from-4.result)) number ∙ ap (nat_cmp (x * 65536 + p)) other
    ∙ two_digits 65536 x y p q (omega arith) (omega arith)
    ∙ ap (λ o. ordering_then o (nat_cmp p q))
    (four_octets c.args.octets.now c.args.others.now (omega arith) (omega arith) c.fits-octets c.fits-others)
