use Rattle.std.proofs.Common.{◌≡◌, ◌++◌, take}
use Rattle.lb_proxy.specs.Http.Write.{fields_text, goes_on}
use Rattle.lb_proxy.proofs.http.write.push_request_fields.Given as goal

abbrev pub invariant-loop-field : goal.invariant-loop-field
invariant-loop-field l = l.out.items ≡ l.fn.out.items ++ fields_text (goes_on l.options) (take l.field-index l.fields)
