use Rattle.std.proofs.Common.{arith}
use Rattle.lb_proxy.specs.declared.http.body.Frame.TheVariants as F
use Rattle.lb_proxy.specs.declared.http.body.Place.TheVariants as P
use Rattle.lb_proxy.proofs.HttpFrameLemmas.{at_byte, extension_end, extension_more}
use Rattle.lb_proxy.proofs.http.body.after_extension.Goals as goal

pub returns-then-byte-eq13 : goal.returns-then-byte-eq13
returns-then-byte-eq13 c =
    let size = c.args.size in
    let room = c.args.room in
    at_byte (F.Extension size room) 13 c.args.byte (P.Framed (F.SizeFeed size)) c.if-byte-eq13.true (extension_end size room)

pub returns : goal.returns
returns c = extension_more c.args.size c.args.room c.args.byte c.if-byte-eq13.false (cc) (omega arith)
