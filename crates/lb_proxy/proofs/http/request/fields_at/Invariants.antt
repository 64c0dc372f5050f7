use Rattle.std.proofs.Common.{◌≡◌, map, take}
use Rattle.httparse.specs.Spans.{header_bytes}
use Rattle.lb_proxy.specs.Http.Heads.{plain}
use Rattle.lb_proxy.proofs.http.request.fields_at.Given as goal

abbrev pub invariant-loop-span : goal.invariant-loop-span
invariant-loop-span l = map plain l.fields.items ≡ map (header_bytes l.bytes) (take l.span-index l.spans)
