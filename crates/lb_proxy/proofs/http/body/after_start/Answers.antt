use Rattle.std.proofs.Common.{arith}
use Rattle.lb_proxy.specs.declared.http.body.Frame.TheVariants as F
use Rattle.lb_proxy.specs.declared.http.body.Place.TheVariants as P
use Rattle.lb_proxy.proofs.HttpFrameLemmas.{at_byte, start_end, start_name}
use Rattle.lb_proxy.proofs.http.body.after_start.Goals as goal

pub returns-then-byte-eq13 : goal.returns-then-byte-eq13
returns-then-byte-eq13 c =
    let room = c.args.room in
    at_byte (F.Trailer room) 13 c.args.byte (P.Framed F.LastFeed) c.if-byte-eq13.true (start_end room)

pub returns : goal.returns
returns c = start_name c.args.room c.args.byte c.if-byte-eq13.false (cc) (omega arith)
