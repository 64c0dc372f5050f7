use Rattle.std.proofs.Common.{◌≤◌, ◌<◌, ◌^◌, arith, length, decimal, lit<}
use Rattle.std.proofs.lemmas.Fmt.{length-decimal-le}
use Rattle.lb_script.proofs.backend_text.put_number.Goals as goal

pub write_digits-requires : goal.write_digits-requires
write_digits-requires c =
    let small : c.args.n < 2 ^ 64 = omega arith in
    let short : length (decimal c.args.n) ≤ 20 = length-decimal-le 20 c.args.n (lit< tt) (omega arith) small in
    (omega (arith, short, c.requires), omega (arith, c.requires))

pub returns-clause-place : goal.returns-clause-place
returns-clause-place c =
    let small : c.args.n < 2 ^ 64 = omega arith in
    let short : length (decimal c.args.n) ≤ 20 = length-decimal-le 20 c.args.n (lit< tt) (omega arith) small in
    (omega (arith, short, c.write_digits.ensures.start), omega (arith, short, c.write_digits.ensures.start))
