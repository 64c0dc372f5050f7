use Rattle.std.proofs.Common.{◌-◌, arith}
use Rattle.lb_proxy.specs.declared.http.body.Frame.TheVariants as F
use Rattle.lb_proxy.specs.declared.http.body.Place.TheVariants as P
use Rattle.lb_proxy.proofs.HttpFrameLemmas.{at_byte, value_end, value_more}
use Rattle.lb_proxy.proofs.http.body.after_value.Goals as goal

pub returns-then-byte-eq13 : goal.returns-then-byte-eq13
returns-then-byte-eq13 c =
    let room = c.args.room in
    at_byte (F.Value room) 13 c.args.byte (P.Framed (F.ValueFeed (room - 1))) c.if-byte-eq13.true (value_end room (omega arith))

pub returns : goal.returns
returns c = value_more c.args.room c.args.byte c.if-byte-eq13.false (cc) (omega arith)
