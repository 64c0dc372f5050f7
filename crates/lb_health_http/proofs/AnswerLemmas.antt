-- Lemmas on a whole answer: from what was read and judged to what a check answers.
use Rattle.std.proofs.Common.{◌≡◌, ◌≢◌, ℕ, ◌<◌, ◌≤◌, inl, inr, Bool, true, false, List, Option, None, Some, is_some, Result, Ok, Err, refl}
use Rattle.std.proofs.Common.{ap, ◌∙◌, subst}
use Rattle.http.specs.declared.response.Parts.{Parts}
use Rattle.httparse.specs.Grammar.{ResponseHead, status_code}
use Rattle.lb_health_core.specs.declared.error.CheckError.{CheckError}
use Rattle.lb_health_core.specs.declared.error.CheckError.TheVariants.{BadHead, HeadTooLarge, Interim, Status, Rejected, BadFraming}
use Rattle.lb_health_core.specs.declared.error.CheckError.TheVariants.{EndInMessage, BodyTooLarge, Read, OutOfMemory}
use Rattle.lb_health_http.specs.declared.framing.Framing.{Framing}
use Rattle.lb_health_http.specs.Body.{BodyOutcome}
use Rattle.lb_health_http.specs.Check.{accepts_of, Judges, HasAcceptedHead, CheckOutcome}
use Rattle.lb_health_http.specs.Framing.{framing_of}
use Rattle.lb_health_http.specs.Head.{BeginsWithHead, HeadOutcome}
use Rattle.lb_health_http.specs.Parts.{parts_of}

module _ (is_head : Bool) (limit : ℕ) (has_validator : Bool) (accepts : Parts → Bool) where
  -- a fault in the head
  pub head_fault : (s r : List ℕ) (e : CheckError) → HeadOutcome (Err e) s r
      → CheckOutcome is_head limit has_validator accepts (Err e) s r
  head_fault s r BadHead o = o
  head_fault s r HeadTooLarge o = o
  head_fault s r EndInMessage o = (o.0, inl o.1)
  head_fault s r Read o = tt
  head_fault s r OutOfMemory o = tt
  head_fault s r e o = absurd o

  -- no framing is known
  pub no_framing : (s m : List ℕ) (h : ResponseHead) → HasAcceptedHead accepts s h m
      → framing_of is_head h.minor (parts_of h) ≡ None → CheckOutcome is_head limit has_validator accepts (Err BadFraming) s m
  no_framing s m h a none = inl (record { head = h; begins = a; unframed = none })

  -- what reading the body says of the whole
  pub body_told : (s m r : List ℕ) (h : ResponseHead) (f : Framing) (e : Result Unit CheckError) → HasAcceptedHead accepts s h m
      → framing_of is_head h.minor (parts_of h) ≡ Some f → BodyOutcome limit f e m r
      → CheckOutcome is_head limit has_validator accepts e s r
  body_told s m r h f (Ok _) a is o = record {
    head = h;
    after = m;
    begins = a;
    framing = f;
    framed = is;
    size = o.0;
    small = o.1;
    body = o.2;
  }
  body_told s m r h f (Err BadFraming) a is o =
      inr (record { head = h; after = m; begins = a; framing = f; framed = is; holds = o })
  body_told s m r h f (Err EndInMessage) a is (over, none, cut) =
      (over, inr (record { head = h; after = m; begins = a; framing = f; framed = is; holds = (none, cut) }))
  body_told s m r h f (Err BodyTooLarge) a is o =
      record { head = h; after = m; begins = a; framing = f; framed = is; holds = o }
  body_told s m r h f (Err Read) a is o = tt
  body_told s m r h f (Err OutOfMemory) a is o = tt
  body_told s m r h f (Err e) a is o = absurd o

-- what isn't `None`
some_is : {V : Type 0} (o : Option V) → o ≢ None → is_some o ≡ true
some_is None other = absurd (other refl)
some_is (Some v) other = refl

module _ {V : Type 0} (by : V → Parts → Bool) (validator : Option V) where
  -- a head that is refused
  pub judge_fault : (is_head : Bool) (limit : ℕ) (s m : List ℕ) (h : ResponseHead) (p : Parts) (e : CheckError)
      → BeginsWithHead s h m → p ≡ parts_of h → Judges by validator p (Err e)
      → CheckOutcome is_head limit (is_some validator) (accepts_of by validator) (Err e) s m
  judge_fault is_head limit s m h p Interim b same j =
      record { head = h; begins = b; interim = subst (λ (q : Parts). q.status < 200) same j }
  judge_fault is_head limit s m h p (Status code) b same j = (
    ap is_some j.3,
    record {
      head = h;
      begins = b;
      final = subst (λ (q : Parts). 200 ≤ q.status) same j.0;
      refused = subst (λ (q : Parts). accepts_of by validator q ≡ false) same j.1;
      status_is = j.2 ∙ ap (λ (q : Parts). q.status) same;
    },
  )
  judge_fault is_head limit s m h p Rejected b same j = (
    some_is validator j.2,
    status_code h,
    record {
      head = h;
      begins = b;
      final = subst (λ (q : Parts). 200 ≤ q.status) same j.0;
      refused = subst (λ (q : Parts). accepts_of by validator q ≡ false) same j.1;
      status_is = refl;
    },
  )
  judge_fault is_head limit s m h p e b same j = absurd j

  -- and one that is accepted
  pub accepted_head : (s m : List ℕ) (h : ResponseHead) (p : Parts) (u : Unit) → BeginsWithHead s h m → p ≡ parts_of h
      → Judges by validator p (Ok u) → HasAcceptedHead (accepts_of by validator) s h m
  accepted_head s m h p u b same j = record {
    begins = b;
    final = subst (λ (q : Parts). 200 ≤ q.status) same j.0;
    accepted = subst (λ (q : Parts). accepts_of by validator q ≡ true) same j.1;
  }
