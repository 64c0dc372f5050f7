use Rattle.std.proofs.Common.{Some, arith}
use Rattle.std.proofs.lemmas.Result.{err_from_is_err_and}
use Rattle.lb_proxy.specs.PoolFile.{lines_of, lines_left}
use Rattle.lb_proxy.proofs.PoolFileLemmas.{next_line, read_more, read_blank, read_some, read_bound}
use Rattle.lb_proxy.proofs.pool_file.read_pool.Goals as goal

pub overflow_add-number : goal.overflow_add-number
overflow_add-number c =
    let next = next_line (lines_of c.args.text.now) c.loop-rest.number c.loop-rest.backends.items c.loop-rest.rest c.in-Some.unread
    c.cut_line.result.0.now (lines_left c.cut_line.result.1) c.loop-rest.invariant c.in-Some.is c.cut_line.ensures in
    omega (arith, read_bound c.args.text.now c.loop-rest.number c.loop-rest.backends.items _ next)

pub returns-in_err-push-in-Ok-Some-clause-fault : goal.returns-in_err-push-in-Ok-Some-clause-fault
returns-in_err-push-in-Ok-Some-clause-fault c =
    let next = next_line (lines_of c.args.text.now) c.loop-rest.number c.loop-rest.backends.items c.loop-rest.rest c.in-Some.unread
    c.cut_line.result.0.now (lines_left c.cut_line.result.1) c.loop-rest.invariant c.in-Some.is c.cut_line.ensures in
    let given = rw c.in-Ok-Some.field-0-is at c.in-Ok-Some.ensures in
    let out = err_from_is_err_and c.from_residual.result c.from_residual.ensures.1 in
    rw (out.1, out.2) (read_some _ _ _ _ _ c.in-Ok-Some.backend next given)

pub returns-in-Err-NoMemory-clause-fault : goal.returns-in-Err-NoMemory-clause-fault
returns-in-Err-NoMemory-clause-fault c =
    let next = next_line (lines_of c.args.text.now) c.loop-rest.number c.loop-rest.backends.items c.loop-rest.rest c.in-Some.unread
    c.cut_line.result.0.now (lines_left c.cut_line.result.1) c.loop-rest.invariant c.in-Some.is c.cut_line.ensures in
    let given = rw c.in-Err-NoMemory.field-0-is at c.in-Err-NoMemory.ensures in
    read_some _ _ _ _ _ given.0 next given.1

pub loop-rest-preserved-in_ok-push-in-Ok-Some : goal.loop-rest-preserved-in_ok-push-in-Ok-Some
loop-rest-preserved-in_ok-push-in-Ok-Some c =
    let next = next_line (lines_of c.args.text.now) c.loop-rest.number c.loop-rest.backends.items c.loop-rest.rest c.in-Some.unread
    c.cut_line.result.0.now (lines_left c.cut_line.result.1) c.loop-rest.invariant c.in-Some.is c.cut_line.ensures in
    let given = rw c.in-Ok-Some.field-0-is at c.in-Ok-Some.ensures in
    rw c.in_ok-push-in-Ok-Some.ensures.items (read_more _ _ _ _ _ (Some c.in-Ok-Some.backend) next given)

pub loop-rest-preserved : goal.loop-rest-preserved
loop-rest-preserved c =
    let next = next_line (lines_of c.args.text.now) c.loop-rest.number c.loop-rest.backends.items c.loop-rest.rest c.in-Some.unread
    c.cut_line.result.0.now (lines_left c.cut_line.result.1) c.loop-rest.invariant c.in-Some.is c.cut_line.ensures in
    let given = rw c.in-Ok-None.field-0-is at c.in-Ok-None.ensures in
    read_blank _ _ _ _ _ next given
