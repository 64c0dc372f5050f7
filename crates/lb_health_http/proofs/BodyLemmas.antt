-- Lemmas on bytes that are passed over, and on the content of a chunk.
use Rattle.std.proofs.Common.{◌≡◌, inl, inr, ℕ, ◌-◌, ◌≤◌, List, [], ◌∷◌, ◌++◌, Result, Ok, Err, length, refl, sym, ap, ◌∙◌, append_assoc}
use Rattle.std.proofs.Common.{length-append, arith}
use Rattle.httparse.specs.Ascii.{crlf_bytes}
use Rattle.lb_stream.specs.Stream.{Takes}
use Rattle.lb_health_core.specs.declared.error.CheckError.{CheckError}
use Rattle.lb_health_core.specs.declared.error.CheckError.TheVariants.{BadFraming, EndInMessage, Read}
use Rattle.lb_health_http.specs.Internal.Steps.{Passed, SkipOutcome, ExpectOutcome, HasContent, ContentOutcome}

-- after some bytes n more were passed over
pub passed_more : (s m r : List ℕ) (left all n : ℕ) → Passed left all s m → Takes n m r → n ≤ left → Passed (left - n) all s r
passed_more s m r left all n p t within = record {
  front = p.front ++ t.front;
  count = omega (arith, length-append p.front t.front, p.count, t.count);
  is = p.is ∙ ap (λ (l : List ℕ). p.front ++ l) t.is ∙ sym (append_assoc p.front t.front r);
}

-- two fronts of one length, at the front of one text
pub fronts_same : (a b m r : List ℕ) → length a ≡ length b → a ++ m ≡ b ++ r → (a ≡ b) × (m ≡ r)
fronts_same [] [] m r n e = (refl, e)
fronts_same [] (y ∷ b) m r n e = absurd (omega arith)
fronts_same (x ∷ a) [] m r n e = absurd (omega arith)
fronts_same (x ∷ a) (y ∷ b) m r n e =
    let tails : a ++ m ≡ b ++ r = cc in
    let rest = fronts_same a b m r (omega arith) tails in
    let same : a ≡ b = rest.0 in
    let heads : x ≡ y = cc in
    (cc, rest.1)

-- what follows n bytes, where there is the content of a chunk of n bytes
content_tail : (n : ℕ) (s m after : List ℕ) → Takes n s m → HasContent n s after → m ≡ crlf_bytes ++ after
content_tail n s m after t h =
    (fronts_same t.front h.0 m (crlf_bytes ++ after) (t.count ∙ sym h.1) (sym t.is ∙ h.2)).1

content_none : (n : ℕ) (s m : List ℕ) → Takes n s m → ((after : List ℕ) → m ≡ crlf_bytes ++ after → ⊥)
    → (after : List ℕ) → HasContent n s after → ⊥
content_none n s m t nothing after h = nothing after (content_tail n s m after t h)

content_never : (n : ℕ) (s m k tail : List ℕ) → Takes n s m → m ≡ k ++ tail
    → ((more after : List ℕ) → k ++ more ≡ crlf_bytes ++ after → ⊥)
    → (front : List ℕ) × (rest : List ℕ) × (s ≡ front ++ rest) × ((more after : List ℕ) → HasContent n (front ++ more) after → ⊥)
content_never n s m k tail t e nothing = (
  t.front ++ k,
  tail,
  t.is ∙ ap (λ (l : List ℕ). t.front ++ l) e ∙ sym (append_assoc t.front k tail),
  λ more after. content_none n ((t.front ++ k) ++ more) (k ++ more)
      (record { front = t.front; count = t.count; is = append_assoc t.front k more }) (nothing more) after,
)

-- a fault at the carriage return
pub content_cr_fault : (n : ℕ) (s m r : List ℕ) (e : CheckError) → Takes n s m → ExpectOutcome 13 (Err e) m r
    → ContentOutcome n (Err e) s r
content_cr_fault n s m r BadFraming t o =
    let never = content_never n s m (o.0 ∷ []) r t o.1 (λ more after e. o.2 (cc)) in
    let is : s ≡ t.front ++ o.0 ∷ r = t.is ∙ ap (λ (l : List ℕ). t.front ++ l) o.1 in
    (never.0, never.1, never.2, never.3, (t.front, t.count, (o.0, inl (is, o.2))))
content_cr_fault n s m r EndInMessage t o = (
  o.1,
  content_none n s m t (λ after e. let none : m ≡ [] = o.0 in cc),
  (o.1, inl (omega (arith, ap length t.is, length-append t.front m, t.count, ap length o.0))),
)
content_cr_fault n s m r Read t o = tt
content_cr_fault n s m r e t o = absurd o

-- a fault at the line feed
pub content_lf_fault : (n : ℕ) (s m y r : List ℕ) (e : CheckError) → Takes n s m → m ≡ 13 ∷ y → ExpectOutcome 10 (Err e) y r
    → ContentOutcome n (Err e) s r
content_lf_fault n s m y r BadFraming t c o =
    let ends : m ≡ 13 ∷ o.0 ∷ r = c ∙ ap (λ (l : List ℕ). 13 ∷ l) o.1 in
    let never = content_never n s m (13 ∷ o.0 ∷ []) r t ends (λ more after e. o.2 (cc)) in
    let is : s ≡ t.front ++ 13 ∷ o.0 ∷ r = t.is ∙ ap (λ (l : List ℕ). t.front ++ l) ends in
    (never.0, never.1, never.2, never.3, (t.front, t.count, (o.0, inr (is, o.2))))
content_lf_fault n s m y r EndInMessage t c o = (
  o.1,
  content_none n s m t (λ after e. let none : y ≡ [] = o.0 in cc),
  (o.1, inr (t.front, t.count, t.is ∙ ap (λ (l : List ℕ). t.front ++ l) (c ∙ ap (λ (l : List ℕ). 13 ∷ l) o.0))),
)
content_lf_fault n s m y r Read t c o = tt
content_lf_fault n s m y r e t c o = absurd o

-- a fault in the bytes
pub content_cut : (n : ℕ) (s r : List ℕ) (e : CheckError) → SkipOutcome n (Err e) s r → ContentOutcome n (Err e) s r
content_cut n s r EndInMessage o = (
  o.0,
  λ after h. omega (arith, ap length h.2, length-append h.0 (crlf_bytes ++ after), h.1, o.1),
  (o.0, inl (omega (arith, o.1))),
)
content_cut n s r Read o = tt
content_cut n s r e o = absurd o

-- the bytes, CR and LF
pub content_is : (n : ℕ) (s m y r : List ℕ) → Takes n s m → m ≡ 13 ∷ y → y ≡ 10 ∷ r → HasContent n s r
content_is n s m y r t c f =
    (t.front, t.count, t.is ∙ ap (λ (l : List ℕ). t.front ++ l) (c ∙ ap (λ (l : List ℕ). 13 ∷ l) f))

pub content_second : (n : ℕ) (s m y r : List ℕ) (e : Result Unit CheckError) → Takes n s m → m ≡ 13 ∷ y → ExpectOutcome 10 e y r
    → ContentOutcome n e s r
content_second n s m y r (Ok _) t c o = content_is n s m y r t c o
content_second n s m y r (Err e) t c o = content_lf_fault n s m y r e t c o
