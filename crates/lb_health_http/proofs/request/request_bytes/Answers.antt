use Rattle.std.proofs.Common.{◌≡◌, [], ◌∷◌, ◌++◌, map, codes, rules}
use Rattle.std.proofs.lemmas.List.{map_push}
use Rattle.http.specs.Request.{head_of}
use Rattle.lb_health_http.specs.Request.{target_of}
use Rattle.lb_health_http.proofs.FieldLemmas.{field_more}
use Rattle.lb_health_http.proofs.request.request_bytes.Goals as goal

pub loop-name-preserved : goal.loop-name-preserved
loop-name-preserved c =
    let t1 = c.extend_from_slice-in-loop-name.new.self.items in
    let t2 = c.extend_from_slice-in-loop-name-2.new.self.items in
    let t3 = c.extend_from_slice-in-loop-name-3.new.self.items in
    let t4 = c.extend_from_slice-in-loop-name-4.new.self.items in
    let n = c.in-Some.name.now in
    let v = c.in-Some.value.now in
    let e1 : t1 ≡ c.loop-name.text.items ++ n = search rules in
    let e2 : t2 ≡ t1 ++ (58 ∷ 32 ∷ []) = search rules in
    let e3 : t3 ≡ t2 ++ v.bytes = search rules in
    let e4 : t4 ≡ t3 ++ (13 ∷ 10 ∷ []) = search rules in
    let front = (head_of c.args.req.now).method ++ codes " " ++ target_of (head_of c.args.req.now) ++ codes " HTTP/1.1" ++ (13 ∷ 10 ∷ []) in
    rw map_push (field_more c.loop-name.text.items t1 t2 t3 t4 front (map (λ p. (p.0.now, p.1.now)) c.loop-name.yielded) n v
    c.loop-name.invariant e1 e2 e3 e4)
