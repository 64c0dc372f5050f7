-- Lemmas on the faults of a head: they exclude each other and a head that is taken, and each is found at one place.
use Rattle.std.proofs.Common.{◌≡◌, ℕ, ◌+◌, ◌<◌, ◌≤◌, ◌⊎◌, inl, inr, Bool, List, [], ◌∷◌, ◌++◌, Result, Ok, Err, length, refl, sym}
use Rattle.std.proofs.Common.{ap, ◌∙◌, subst, arith, append_assoc, append-nil, length-append}
use Rattle.http.specs.declared.response.Parts.{Parts}
use Rattle.httparse.specs.Grammar.{ResponseHead, ReadsResponse, print_response, status_code}
use Rattle.httparse.proofs.GrammarLemmas.{response_prefix_free, ReadsResponse-append}
use Rattle.lb_health_core.specs.declared.error.CheckError.{CheckError}
use Rattle.lb_health_core.specs.declared.error.CheckError.TheVariants.{BadHead, HeadTooLarge, Interim, Status, Rejected, BadFraming}
use Rattle.lb_health_core.specs.declared.error.CheckError.TheVariants.{EndInMessage, BodyTooLarge, Read, OutOfMemory}
use Rattle.lb_health_http.specs.Check.{CheckOutcome}
use Rattle.lb_health_http.specs.FaultLaws.{IsFaultOrFailed, HasFaultAlone}
use Rattle.lb_health_http.specs.Head.{BeginsWithHead, IsRefusedHead, MayBecomeHead, HasBadHead, HasLargeHead, EndsInHead}
use Rattle.lb_health_http.proofs.BodyLemmas.{fronts_same}
use Rattle.lb_health_http.proofs.RoomLemmas.{shorter_front}

-- ---- a head that is taken

pub bad_no_head : (s rest after : List ℕ) (h : ResponseHead) → HasBadHead s rest → BeginsWithHead s h after → ⊥
bad_no_head s rest after h bad begun =
    let fits = begun.fit.fields in
    let final = begun.fit.status in
    let front = bad.line ++ 10 ∷ [] in
    let reads : ReadsResponse (front ++ rest) h after = (begun.reads.0, sym bad.is ∙ begun.reads.1) in
    elim bad.refused [
      | inl never ↦ never rest h after reads
      | inr some ↦ elim some [
        | inl many ↦ let more = many.overflows rest h after reads in omega arith
        | inr low ↦
            let same = response_prefix_free front rest low.0 h [] after low.1 reads in
            let code : status_code low.0 ≡ status_code h = ap status_code same.0 in
            let below = low.2 in
            omega arith
      ]
    ]

pub large_no_head : (s rest after : List ℕ) (h : ResponseHead) → HasLargeHead s rest → BeginsWithHead s h after → ⊥
large_no_head s rest after h large begun =
    let small = begun.fit.size in
    let full = large.count in
    let cut = shorter_front large.front (print_response h) rest after (omega arith) (sym large.is ∙ begun.reads.1) in
    large.none h cut.0 (begun.reads.0, cut.1)

-- ---- two faults

-- what may go on is refused only where it is a whole head
low_or_none : (bytes : List ℕ) → MayBecomeHead bytes → IsRefusedHead bytes
    → (h : ResponseHead) × ReadsResponse bytes h [] × (length h.fields ≤ 64)
low_or_none bytes (more, h, reads, few) refused =
    elim refused [
      | inl never ↦ absurd (never more h [] reads)
      | inr some ↦ elim some [
        | inl many ↦ let over = many.overflows more h [] reads in absurd (omega arith)
        | inr low ↦
            let same = response_prefix_free bytes more low.0 h [] [] low.1 reads in
            (low.0, low.1, subst (λ (k : ResponseHead). length k.fields ≤ 64) (sym same.0) few)
      ]
    ]

pub bad_not_large : (s rest other : List ℕ) → HasBadHead s rest → HasLargeHead s other → ⊥
bad_not_large s rest other bad large =
    let line = bad.line ++ 10 ∷ [] in
    let small = bad.within in
    let full = large.count in
    let cut = shorter_front large.front line other rest (omega (arith, length-append bad.line (10 ∷ []), small, full))
    (sym large.is ∙ bad.is) in
    let low = low_or_none line (large.may_go_on bad.line cut.0 cut.1) bad.refused in
    let all : ReadsResponse large.front low.0 cut.0 =
    subst (λ (l : List ℕ). ReadsResponse l low.0 cut.0) (sym cut.1) (ReadsResponse-append line low.0 [] cut.0 low.1) in
    large.none low.0 cut.0 all

pub bad_not_ended : (s rest : List ℕ) → HasBadHead s rest → EndsInHead s → ⊥
bad_not_ended s rest bad ended =
    let line = bad.line ++ 10 ∷ [] in
    let low = low_or_none line (ended.may_go_on bad.line rest bad.is) bad.refused in
    let all : ReadsResponse s low.0 rest =
    subst (λ (l : List ℕ). ReadsResponse l low.0 rest) (sym bad.is) (ReadsResponse-append line low.0 [] rest low.1) in
    ended.none low.0 rest all

pub large_not_ended : (s rest : List ℕ) → HasLargeHead s rest → EndsInHead s → ⊥
large_not_ended s rest large ended =
    let small = ended.within in
    omega (arith, ap length large.is, length-append large.front rest, large.count, small)

-- ---- where a fault is found

pub large_at : (s rest other : List ℕ) → HasLargeHead s rest → HasLargeHead s other → rest ≡ other
large_at s rest other a b =
    (fronts_same a.front b.front rest other (a.count ∙ sym b.count) (sym a.is ∙ b.is)).1

-- no stream is refused at a line feed and again at a later one
not_refused_before : (s rest other : List ℕ) (a : HasBadHead s rest) (b : HasBadHead s other) → length a.line < length b.line → ⊥
not_refused_before s rest other a b before =
    let line = a.line ++ 10 ∷ [] in
    let later = b.line ++ 10 ∷ [] in
    let split : b.line ++ (10 ∷ other) ≡ line ++ rest = sym (append_assoc b.line (10 ∷ []) other) ∙ sym b.is ∙ a.is in
    let cut = shorter_front b.line line (10 ∷ other) rest (omega (arith, length-append a.line (10 ∷ []), before)) split in
    let low = low_or_none line (b.may_go_on a.line cut.0 cut.1) a.refused in
    let more = cut.0 ++ 10 ∷ [] in
    let is : later ≡ line ++ more = ap (λ (l : List ℕ). l ++ 10 ∷ []) cut.1 ∙ append_assoc line cut.0 (10 ∷ []) in
    let all : ReadsResponse later low.0 more =
    subst (λ (l : List ℕ). ReadsResponse l low.0 more) (sym is) (ReadsResponse-append line low.0 [] more low.1) in
    let nothing : ReadsResponse (later ++ []) low.0 more =
    subst (λ (l : List ℕ). ReadsResponse l low.0 more) (sym (append-nil later)) all in
    elim b.refused [
      | inl never ↦ never [] low.0 more nothing
      | inr some ↦ elim some [
        | inl many ↦ let over = many.overflows [] low.0 more nothing in let few = low.2 in omega arith
        | inr again ↦
            let same = response_prefix_free later [] again.0 low.0 [] more again.1 nothing in
            omega (arith, ap length same.1, length-append cut.0 (10 ∷ []))
      ]
    ]

pub bad_at : (s rest other : List ℕ) → HasBadHead s rest → HasBadHead s other → rest ≡ other
bad_at s rest other a b =
    let equal : length a.line ≡ length b.line =
    let one = not_refused_before s rest other a b in
    let two = not_refused_before s other rest b a in
    omega arith in
    (fronts_same (a.line ++ 10 ∷ []) (b.line ++ 10 ∷ []) rest other
    (omega (arith, equal, length-append a.line (10 ∷ []), length-append b.line (10 ∷ []))) (sym a.is ∙ b.is)).1

-- ---- what a check may answer, by the head of its stream

abbrev ByHead : Result Unit CheckError → List ℕ → List ℕ → Type 0
ByHead r s rest =
    ((h : ResponseHead) × (after : List ℕ) × BeginsWithHead s h after)
    ⊎ (((r ≡ Err BadHead) × HasBadHead s rest)
    ⊎ (((r ≡ Err HeadTooLarge) × HasLargeHead s rest)
    ⊎ (((r ≡ Err EndInMessage) × EndsInHead s)
    ⊎ ((r ≡ Err Read) ⊎ (r ≡ Err OutOfMemory)))))

module _ (is_head : Bool) (limit : ℕ) (has_validator : Bool) (accepts : Parts → Bool) where
  by_head : (r : Result Unit CheckError) (s rest : List ℕ) → CheckOutcome is_head limit has_validator accepts r s rest → ByHead r s rest
  by_head (Ok u) s rest o = inl (o.head, o.after, o.begins.begins)
  by_head (Err BadHead) s rest o = inr (inl (refl, o))
  by_head (Err HeadTooLarge) s rest o = inr (inr (inl (refl, o)))
  by_head (Err Interim) s rest o = inl (o.head, rest, o.begins)
  by_head (Err (Status code)) s rest o = inl (o.1.head, rest, o.1.begins)
  by_head (Err Rejected) s rest o = inl (o.2.head, rest, o.2.begins)
  by_head (Err BadFraming) s rest (inl o) = inl (o.head, rest, o.begins.begins)
  by_head (Err BadFraming) s rest (inr o) = inl (o.head, o.after, o.begins.begins)
  by_head (Err EndInMessage) s rest (over, inl o) = inr (inr (inr (inl (refl, o))))
  by_head (Err EndInMessage) s rest (over, inr o) = inl (o.head, o.after, o.begins.begins)
  by_head (Err BodyTooLarge) s rest o = inl (o.head, o.after, o.begins.begins)
  by_head (Err Read) s rest o = inr (inr (inr (inr (inl refl))))
  by_head (Err OutOfMemory) s rest o = inr (inr (inr (inr (inr refl))))
  by_head (Err e) s rest o = absurd o

pub bad_alone : (s rest : List ℕ) → HasBadHead s rest → HasFaultAlone BadHead s
bad_alone s rest bad is_head limit has_validator accepts r other o =
    elim (by_head is_head limit has_validator accepts r s other o) [
      | inl head ↦ absurd (bad_no_head s rest head.1 head.0 bad head.2)
      | inr (inl same) ↦ inl same.0
      | inr (inr (inl large)) ↦ absurd (bad_not_large s rest other bad large.1)
      | inr (inr (inr (inl ended))) ↦ absurd (bad_not_ended s rest bad ended.1)
      | inr (inr (inr (inr failed))) ↦ inr failed
    ]

pub large_alone : (s rest : List ℕ) → HasLargeHead s rest → HasFaultAlone HeadTooLarge s
large_alone s rest large is_head limit has_validator accepts r other o =
    elim (by_head is_head limit has_validator accepts r s other o) [
      | inl head ↦ absurd (large_no_head s rest head.1 head.0 large head.2)
      | inr (inl bad) ↦ absurd (bad_not_large s other rest bad.1 large)
      | inr (inr (inl same)) ↦ inl same.0
      | inr (inr (inr (inl ended))) ↦ absurd (large_not_ended s rest large ended.1)
      | inr (inr (inr (inr failed))) ↦ inr failed
    ]

pub ended_alone : (s : List ℕ) → EndsInHead s → HasFaultAlone EndInMessage s
ended_alone s ended is_head limit has_validator accepts r other o =
    elim (by_head is_head limit has_validator accepts r s other o) [
      | inl head ↦ absurd (ended.none head.0 head.1 head.2.reads)
      | inr (inl bad) ↦ absurd (bad_not_ended s other bad.1 ended)
      | inr (inr (inl large)) ↦ absurd (large_not_ended s other large.1 ended)
      | inr (inr (inr (inl same))) ↦ inl same.0
      | inr (inr (inr (inr failed))) ↦ inr failed
    ]
