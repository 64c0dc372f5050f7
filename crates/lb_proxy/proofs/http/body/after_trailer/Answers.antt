use Rattle.std.proofs.Common.{◌-◌, arith}
use Rattle.lb_proxy.specs.declared.http.body.Frame.TheVariants as F
use Rattle.lb_proxy.specs.declared.http.body.Place.TheVariants as P
use Rattle.lb_proxy.proofs.HttpFrameLemmas.{expected, value_feed, value_feed_bad}
use Rattle.lb_proxy.proofs.http.body.after_trailer.Goals as goal

pub returns : goal.returns
returns c =
    let room = c.args.room in
    let byte = c.args.byte in
    expected (F.ValueFeed room) byte 10 (P.Framed (F.Trailer (room - 1))) c.expect.result (value_feed_bad room byte)
    (value_feed room (omega arith)) c.expect.ensures
