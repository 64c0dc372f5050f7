use Rattle.std.proofs.Common.{◌≡◌, ◌≢◌, ℕ, ◌-◌, ◌≤◌, max, List, ◌++◌, Err, length, subst, sym, arith, rules}
use Rattle.httparse.specs.Ascii.{crlf_bytes}
use Rattle.lb_health_core.specs.declared.error.CheckError.TheVariants.{BadFraming}
use Rattle.lb_health_http.specs.Chunked.{IsTrailerLine}
use Rattle.lb_health_http.specs.Internal.Steps.{LineFault, TrailersOutcome}
use Rattle.lb_health_http.proofs.TrailerLemmas.{PassesTrailers, trailers_more, trailer_fits, bad_trailer, trailer_fault}
use Rattle.lb_health_http.proofs.Streams.{OnBytes-then}
use Rattle.lb_health_http.proofs.trailers.read_trailers.Goals as goal

pub returns-in-Err-clause-outcome : goal.returns-in-Err-clause-outcome
returns-in-Err-clause-outcome g c =
    let room = c.loop-line.room in
    let e = c.in-Err.fault in
    let P : List ℕ → List ℕ → Type 0 = PassesTrailers room in
    let Q : List ℕ → List ℕ → Type 0 = LineFault c.max.result e in
    let S : List ℕ → List ℕ → Type 0 = TrailersOutcome (Err e) in
    OnBytes-then P Q S _ _ _ c.loop-line.invariant.read c.in-Err.ensures.outcome
    (λ x y z p o. trailer_fault room c.max.result x y z e c.max.ensures p o)

pub returns-then-not-is_trailer-clause-outcome : goal.returns-then-not-is_trailer-clause-outcome
returns-then-not-is_trailer-clause-outcome g c =
    let room = c.loop-line.room in
    let line = c.in-Ok.line.items in
    let Differs : List ℕ → Type 0 = λ l. l ≢ crlf_bytes in
    let some : line ≢ crlf_bytes = subst Differs c.deref.ensures.value c.if-is_end.ensures in
    let IsOther : List ℕ → Type 0 = λ l. ¬ (IsTrailerLine l) in
    let nothing : ¬ (IsTrailerLine line) = subst IsOther c.deref-in-loop-line.ensures.value c.if-not-is_trailer.ensures in
    let most : length line ≤ c.max.result = let len = c.in-Ok.line.ok in let short = c.in-Ok.ensures.line.1 in omega arith in
    let fits : length line ≤ max room 2 = subst (λ (n : ℕ). length line ≤ n) c.max.ensures most in
    let P : List ℕ → List ℕ → Type 0 = PassesTrailers room in
    let Q : List ℕ → List ℕ → Type 0 = λ s t. s ≡ line ++ t in
    let S : List ℕ → List ℕ → Type 0 = TrailersOutcome (Err BadFraming) in
    OnBytes-then P Q S _ _ _ c.loop-line.invariant.read c.in-Ok.ensures.outcome
    (λ x y z p e. bad_trailer room line x y z c.in-Ok.ensures.line.0 fits some nothing p e)

pub loop-line-preserved : goal.loop-line-preserved
loop-line-preserved g c =
    let room = c.loop-line.room in
    let line = c.in-Ok.line.items in
    let is : IsTrailerLine line = subst IsTrailerLine c.deref-in-loop-line.ensures.value c.if-not-is_trailer.ensures in
    let same : c.len.result ≡ length line = let len = c.in-Ok.line.ok in let is_len = c.len.ensures in omega arith in
    let most : length line ≤ c.max.result = let len = c.in-Ok.line.ok in let short = c.in-Ok.ensures.line.1 in omega arith in
    let within : length line ≤ room = trailer_fits room c.max.result line c.max.ensures is most in
    let P : List ℕ → List ℕ → Type 0 = PassesTrailers room in
    let Q : List ℕ → List ℕ → Type 0 = λ s t. s ≡ line ++ t in
    let S : List ℕ → List ℕ → Type 0 = PassesTrailers (room - c.len.result) in
    record {
      read = OnBytes-then P Q S _ _ _ c.loop-line.invariant.read c.in-Ok.ensures.outcome
          (λ x y z p e. subst (λ (n : ℕ). PassesTrailers (room - n) x z) (sym same) (trailers_more room line x y z is within p e));
      within = omega arith;
      kept = search rules;
    }
