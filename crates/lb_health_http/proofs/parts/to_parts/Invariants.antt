use Rattle.std.proofs.Common.{◌≡◌, [], map, take}
use Rattle.http_header.specs.HeaderMap.{append_all}
use Rattle.httparse.specs.Spans.{header_bytes}
use Rattle.lb_health_http.specs.Parts.{item_of}
use Rattle.lb_health_http.proofs.parts.to_parts.Given as goal

abbrev pub invariant-loop-span : goal.invariant-loop-span
invariant-loop-span l =
    l.headers ≡ append_all [] (map item_of (map (header_bytes l.head.bytes.items) (take l.span-index l.spans)))
