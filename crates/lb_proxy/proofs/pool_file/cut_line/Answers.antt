use Rattle.std.proofs.Common.{lit<}
use Rattle.lb_proxy.proofs.PoolFileLemmas.{one_line, first_line}
use Rattle.lb_proxy.proofs.pool_file.cut_line.Goals as goal

pub returns-in-Some : goal.returns-in-Some
returns-in-Some c =
    let cut = c.in-Some.ensures.byte (lit< tt) (λ w o h. h) in
    first_line c.args.text.now c.in-Some.line.now c.in-Some.rest.now cut.2 cut.0 cut.1

pub returns-in-None : goal.returns-in-None
returns-in-None c = one_line c.args.text.now (c.in-None.ensures.byte (lit< tt) (λ w o h. h))
