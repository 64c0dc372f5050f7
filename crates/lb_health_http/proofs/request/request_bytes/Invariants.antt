use Rattle.std.proofs.Common.{◌≡◌, [], ◌∷◌, ◌++◌, map, codes}
use Rattle.std.specs.List.{flat_map}
use Rattle.http.specs.Request.{head_of}
use Rattle.lb_health_http.specs.Request.{field_text, target_of}
use Rattle.lb_health_http.proofs.request.request_bytes.Given as goal

abbrev pub invariant-loop-name : goal.invariant-loop-name
invariant-loop-name l =
    l.text.items ≡ (head_of l.fn.req).method ++ codes " " ++ target_of (head_of l.fn.req) ++ codes " HTTP/1.1" ++ (13 ∷ 10 ∷ [])
    ++ flat_map field_text (map (λ p. (p.0.now, p.1.now)) l.yielded)
