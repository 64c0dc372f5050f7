use Rattle.std.proofs.Common.{◌-◌, arith}
use Rattle.lb_proxy.specs.declared.http.body.Frame.TheVariants as F
use Rattle.lb_proxy.specs.declared.http.body.Place.TheVariants as P
use Rattle.lb_proxy.proofs.HttpFrameLemmas.{at_byte, name_end, name_more}
use Rattle.lb_proxy.proofs.http.body.after_name.Goals as goal

pub returns-then-byte-eq58 : goal.returns-then-byte-eq58
returns-then-byte-eq58 c =
    let room = c.args.room in
    at_byte (F.Name room) 58 c.args.byte (P.Framed (F.Value (room - 1))) c.if-byte-eq58.true (name_end room (omega arith))

pub returns : goal.returns
returns c = name_more c.args.room c.args.byte c.if-byte-eq58.false (cc) (omega arith)
