use Rattle.std.proofs.Common.{arith}
use Rattle.lb_proxy.specs.declared.http.body.Frame.TheVariants as F
use Rattle.lb_proxy.specs.declared.http.body.Place.TheVariants as P
use Rattle.lb_proxy.proofs.HttpFrameLemmas.{size_digits, size_semicolon, size_return, at_byte}
use Rattle.lb_proxy.proofs.http.body.after_size.Goals as goal

pub returns-in-Some : goal.returns-in-Some
returns-in-Some c =
    size_digits c.args.count c.args.value c.args.byte c.in-Some.digit c.after_digit.result c.in-Some.ensures.0 c.in-Some.ensures.1
    c.after_digit.ensures

pub returns-in-59 : goal.returns-in-59
returns-in-59 c =
    let count = c.args.count in
    let value = c.args.value in
    at_byte (F.Size count value) 59 c.args.byte (P.Framed (F.Extension value 4096)) c.in-59.is
    (size_semicolon count value (omega arith) (omega arith))

pub returns-in-13 : goal.returns-in-13
returns-in-13 c =
    let count = c.args.count in
    let value = c.args.value in
    at_byte (F.Size count value) 13 c.args.byte (P.Framed (F.SizeFeed value)) c.in-13.is
    (size_return count value (omega arith) (omega arith))
