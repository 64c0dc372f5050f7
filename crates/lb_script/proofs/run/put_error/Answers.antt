use Rattle.std.proofs.Common.{◌≡◌, ◌∙◌, subst, List, ℕ, Option, ◌++◌, codes, decimal}
use Rattle.std.specs.Io.KnownBytes.{Appends}
use Rattle.std.proofs.KnownBytes.{Appends-trans}
use Rattle.std.proofs.lemmas.Result.{on_err_weaker}
use Rattle.lb_stream.specs.Counted.{inner_of}
use Rattle.lb_stream.specs.Stream.{AppendsFront}
use Rattle.lb_script.specs.Texts.{script_error_name}
use Rattle.lb_stream.proofs.StreamLemmas.{on_err, front_more, front_after}
use Rattle.lb_script.proofs.run.put_error.Goals as goal

-- the five parts, and where each fails after those before it were written; `shown` is the number's text, and `named` the name's
at_first : (a b : Option (List ℕ)) (e d s n l : List ℕ) → AppendsFront a b e → AppendsFront a b ((((e ++ d) ++ s) ++ n) ++ l)
at_first a b e d s n l h =
    front_more a b (((e ++ d) ++ s) ++ n) l (front_more a b ((e ++ d) ++ s) n (front_more a b (e ++ d) s (front_more a b e d h)))

at_second : (a b c : Option (List ℕ)) (e shown d s n l : List ℕ) → shown ≡ d → Appends a b e → AppendsFront b c shown
    → AppendsFront a c ((((e ++ d) ++ s) ++ n) ++ l)
at_second a b c e shown d s n l same p h =
    front_more a c (((e ++ d) ++ s) ++ n) l
    (front_more a c ((e ++ d) ++ s) n (front_more a c (e ++ d) s (front_after a b c e d p (subst (AppendsFront b c) same h))))

two_parts : (a b c : Option (List ℕ)) (e shown d : List ℕ) → shown ≡ d → Appends a b e → Appends b c shown → Appends a c (e ++ d)
two_parts a b c e shown d same p q = Appends-trans a b c e d p (subst (Appends b c) same q)

at_third : (a b c i : Option (List ℕ)) (e shown d s n l : List ℕ) → shown ≡ d → Appends a b e → Appends b c shown
    → AppendsFront c i s → AppendsFront a i ((((e ++ d) ++ s) ++ n) ++ l)
at_third a b c i e shown d s n l same p q h =
    front_more a i (((e ++ d) ++ s) ++ n) l
    (front_more a i ((e ++ d) ++ s) n (front_after a c i (e ++ d) s (two_parts a b c e shown d same p q) h))

at_fourth : (a b c i j : Option (List ℕ)) (e shown d s named n l : List ℕ) → shown ≡ d → Appends a b e → Appends b c shown
    → Appends c i s → named ≡ n → AppendsFront i j named → AppendsFront a j ((((e ++ d) ++ s) ++ n) ++ l)
at_fourth a b c i j e shown d s named n l same p q r name h =
    let done = Appends-trans a c i (e ++ d) s (two_parts a b c e shown d same p q) r in
    front_more a j (((e ++ d) ++ s) ++ n) l (front_after a i j ((e ++ d) ++ s) n done (subst (AppendsFront i j) name h))

at_fifth : (a b c i j k : Option (List ℕ)) (e shown d s named n l : List ℕ) → shown ≡ d → Appends a b e → Appends b c shown
    → Appends c i s → named ≡ n → Appends i j named → AppendsFront j k l → AppendsFront a k ((((e ++ d) ++ s) ++ n) ++ l)
at_fifth a b c i j k e shown d s named n l same p q r name t h =
    let done = Appends-trans a c i (e ++ d) s (two_parts a b c e shown d same p q) r in
    front_after a j k (((e ++ d) ++ s) ++ n) l (two_parts a i j ((e ++ d) ++ s) named n name done t) h

pub returns-in_err-put-clause-part : goal.returns-in_err-put-clause-part
returns-in_err-put-clause-part g c =
    on_err c.from_residual.result
    (at_first (g.W.Write.contents (inner_of c.args.writer.now)) (g.W.Write.contents (inner_of c.put.new.self)) (codes "error ")
    (decimal c.args.line) (codes " ") (script_error_name c.args.error) (codes "\n") c.in_err-put.ensures.part)

pub returns-in_err-put-2-clause-part : goal.returns-in_err-put-2-clause-part
returns-in_err-put-2-clause-part g c =
    on_err c.from_residual-in_err-put-2.result
    (at_second (g.W.Write.contents (inner_of c.args.writer.now)) (g.W.Write.contents (inner_of c.put.new.self))
    (g.W.Write.contents (inner_of c.put-2.new.self)) (codes "error ") c.as_bytes.result.now (decimal c.args.line) (codes " ")
    (script_error_name c.args.error) (codes "\n") (c.as_bytes.ensures.value ∙ c.format.ensures.text) c.in_ok-put.ensures.ok
    c.in_err-put-2.ensures.part)

pub returns-in_err-put-3-clause-part : goal.returns-in_err-put-3-clause-part
returns-in_err-put-3-clause-part g c =
    on_err c.from_residual-in_err-put-3.result
    (at_third (g.W.Write.contents (inner_of c.args.writer.now)) (g.W.Write.contents (inner_of c.put.new.self))
    (g.W.Write.contents (inner_of c.put-2.new.self)) (g.W.Write.contents (inner_of c.put-3.new.self))
    (codes "error ") c.as_bytes.result.now (decimal c.args.line) (codes " ") (script_error_name c.args.error) (codes "\n")
    (c.as_bytes.ensures.value ∙ c.format.ensures.text) c.in_ok-put.ensures.ok c.in_ok-put-2.ensures.ok c.in_err-put-3.ensures.part)

pub returns-in_err-put-4-clause-part : goal.returns-in_err-put-4-clause-part
returns-in_err-put-4-clause-part g c =
    on_err c.from_residual-in_err-put-4.result
    (at_fourth (g.W.Write.contents (inner_of c.args.writer.now)) (g.W.Write.contents (inner_of c.put.new.self))
    (g.W.Write.contents (inner_of c.put-2.new.self)) (g.W.Write.contents (inner_of c.put-3.new.self))
    (g.W.Write.contents (inner_of c.put-4.new.self)) (codes "error ") c.as_bytes.result.now (decimal c.args.line)
    (codes " ") c.as_bytes-2.result.now (script_error_name c.args.error) (codes "\n") (c.as_bytes.ensures.value
    ∙ c.format.ensures.text) c.in_ok-put.ensures.ok c.in_ok-put-2.ensures.ok c.in_ok-put-3.ensures.ok (c.as_bytes-2.ensures.value
    ∙ c.name.ensures) c.in_err-put-4.ensures.part)

pub returns-clause-part : goal.returns-clause-part
returns-clause-part g c =
    on_err_weaker c.put-5.result
    (at_fifth (g.W.Write.contents (inner_of c.args.writer.now)) (g.W.Write.contents (inner_of c.put.new.self))
    (g.W.Write.contents (inner_of c.put-2.new.self)) (g.W.Write.contents (inner_of c.put-3.new.self))
    (g.W.Write.contents (inner_of c.put-4.new.self)) (g.W.Write.contents (inner_of c.put-5.new.self))
    (codes "error ") c.as_bytes.result.now (decimal c.args.line) (codes " ") c.as_bytes-2.result.now (script_error_name c.args.error)
    (codes "\n") (c.as_bytes.ensures.value ∙ c.format.ensures.text) c.in_ok-put.ensures.ok c.in_ok-put-2.ensures.ok
    c.in_ok-put-3.ensures.ok (c.as_bytes-2.ensures.value ∙ c.name.ensures) c.in_ok-put-4.ensures.ok)
    c.put-5.ensures.part
