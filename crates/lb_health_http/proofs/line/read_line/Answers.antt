use Rattle.std.proofs.Common.{◌≡◌, ℕ, ◌<◌, List, [], ◌∷◌, ◌++◌, length, arith, rules, length-append}
use Rattle.lb_health_http.specs.Chunked.{NoFeed}
use Rattle.lb_health_http.proofs.LineLemmas.{line_ended, line_short, line_grows, line_goes_on}
use Rattle.lb_health_http.proofs.Streams.{OnBytes-then, OnBytes-map, gave_byte, gave_none}
use Rattle.lb_health_http.proofs.line.read_line.Goals as goal

pub returns-in-Ok-None-clause-outcome : goal.returns-in-Ok-None-clause-outcome
returns-in-Ok-None-clause-outcome g c =
    let line = c.loop.line.items in
    let P : List ℕ → List ℕ → Type 0 = λ s t. s ≡ line ++ t in
    let Q : List ℕ → List ℕ → Type 0 = λ s t. (s ≡ []) × (t ≡ []) in
    let S : List ℕ → List ℕ → Type 0 = λ s t. (t ≡ []) × NoFeed s × (length s < c.args.most) in
    let test : c.loop.counter < c.args.most = c.loop-test.true in
    let short : length line < c.args.most = let same = c.loop.invariant.counted in omega arith in
    OnBytes-then P Q S _ _ _ c.loop.invariant.read
    (gave_none _ _ _ c.next_byte.ensures.byte (cc))
    (λ x y z p q. (q.1, line_ended line x y c.loop.invariant.clear p q.0, line_short line x y c.args.most p q.0 short))

pub loop-preserved : goal.loop-preserved
loop-preserved g c =
    let line = c.loop.line.items in
    let b = c.in-Ok-Some.byte in
    let grown : c.push.new.self.items ≡ line ++ b ∷ [] = search rules in
    let P : List ℕ → List ℕ → Type 0 = λ s t. s ≡ line ++ t in
    let Q : List ℕ → List ℕ → Type 0 = λ s t. s ≡ b ∷ t in
    let S : List ℕ → List ℕ → Type 0 = λ s t. s ≡ (line ++ b ∷ []) ++ t in
    rw grown (record {
      read = OnBytes-then P Q S _ _ _ c.loop.invariant.read (gave_byte _ _ _ c.next_byte.ensures.byte b (cc))
          (λ x y z p q. line_goes_on line x y z b p q);
      clear = line_grows line b c.loop.invariant.clear (search rules);
      counted = (let same = c.loop.invariant.counted in omega (arith, length-append line (b ∷ [])));
      kept = search rules;
    })

pub returns-clause-outcome : goal.returns-clause-outcome
returns-clause-outcome g c =
    let line = c.loop.line.items in
    let P : List ℕ → List ℕ → Type 0 = λ s t. s ≡ line ++ t in
    let S : List ℕ → List ℕ → Type 0 = λ s t.
    (front : List ℕ) × (s ≡ front ++ t) × (length front ≡ c.args.most) × NoFeed front in
    OnBytes-map P S _ _ c.loop.invariant.read
    (λ x y p. (line, p, (let same = c.loop.invariant.counted in omega arith), c.loop.invariant.clear))
