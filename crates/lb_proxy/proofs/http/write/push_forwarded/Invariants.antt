use Rattle.std.proofs.Common.{◌≡◌, ◌++◌, take}
use Rattle.lb_proxy.specs.Http.Write.{forwarded_text}
use Rattle.lb_proxy.proofs.http.write.push_forwarded.Given as goal

abbrev pub invariant-loop-field : goal.invariant-loop-field
invariant-loop-field l = l.out.items ≡ l.fn.out.items ++ forwarded_text (take l.field-index l.fields)
