-- An HTTP message as a check takes it, the cause of each fault, and the address that a check connects to.
use Rattle.std.specs.Prelude.{◌≡◌, ◌≢◌, ℕ, ◌<◌, ◌≤◌, ◌⊎◌, Bool, true, false, List, [], ⊤, Option, None, Some, Result, Ok, Err, ◌==◌}
use Rattle.http.specs.declared.response.Parts.{Parts}
use Rattle.httparse.specs.Grammar.{ResponseHead, status_code}
use Rattle.lb_health_core.specs.declared.error.CheckError.{CheckError}
use Rattle.lb_health_core.specs.declared.error.CheckError.TheVariants.{BadHead, HeadTooLarge, Interim, Status, Rejected, BadFraming}
use Rattle.lb_health_core.specs.declared.error.CheckError.TheVariants.{EndInMessage, BodyTooLarge, Write, Read, OutOfMemory}
use Rattle.lb_health_http.specs.declared.framing.Framing.{Framing}
use Rattle.lb_health_http.specs.Head.{BeginsWithHead, HasBadHead, HasLargeHead, EndsInHead}
use Rattle.lb_health_http.specs.Parts.{parts_of}
use Rattle.lb_health_http.specs.Framing.{framing_of}
use Rattle.lb_health_http.specs.Body.{HasBody, HasNoBody, NeverHasBody, IsCut, IsMisframed, IsLarge}
use Rattle.lb_select_base.specs.declared.backend.InetAddr.{InetAddr}
use Rattle.lb_select_base.specs.declared.backend.InetAddr.TheVariants.{V4, V6}

-- what is accepted: what the validator accepts, and without one the status 200
abbrev pub accepts_of : {V : Type 0} → (V → Parts → Bool) → Option V → Parts → Bool
accepts_of by None p = p.status == 200
accepts_of by (Some v) p = by v p

-- what judging a head answers
abbrev pub Judges : {V : Type 0} → (V → Parts → Bool) → Option V → Parts → Result Unit CheckError → Type 0
Judges by validator p (Ok _) = (200 ≤ p.status) × (accepts_of by validator p ≡ true)
Judges by validator p (Err Interim) = p.status < 200
Judges by validator p (Err (Status s)) =
    (200 ≤ p.status) × (accepts_of by validator p ≡ false) × (s ≡ p.status) × (validator ≡ None)
Judges by validator p (Err Rejected) = (200 ≤ p.status) × (accepts_of by validator p ≡ false) × (validator ≢ None)
Judges by validator p (Err e) = ⊥

-- the stream is a whole head whose status is below 200, and then the rest
pub record IsInterim (stream rest : List ℕ) : Type 0 where
  pub head : ResponseHead
  pub begins : BeginsWithHead stream head rest
  pub interim : status_code head < 200

module _ (accepts : Parts → Bool) where
  -- the stream begins with that head, which is accepted
  pub record HasAcceptedHead (stream : List ℕ) (h : ResponseHead) (after : List ℕ) : Type 0 where
    pub begins : BeginsWithHead stream h after
    pub final : 200 ≤ status_code h
    pub accepted : accepts (parts_of h) ≡ true

  -- the stream is a head of that status, which is refused, and then the rest
  pub record HasRefusedHead (status : ℕ) (stream rest : List ℕ) : Type 0 where
    pub head : ResponseHead
    pub begins : BeginsWithHead stream head rest
    pub final : 200 ≤ status_code head
    pub refused : accepts (parts_of head) ≡ false
    pub status_is : status ≡ status_code head

module _ (is_head : Bool) (accepts : Parts → Bool) where
  -- an accepted head is framed, and what follows it has the property
  pub record HasFramed (P : Framing → List ℕ → Type 0) (stream : List ℕ) : Type 0 where
    pub head : ResponseHead
    pub after : List ℕ
    pub begins : HasAcceptedHead accepts stream head after
    pub framing : Framing
    pub framed : framing_of is_head head.minor (parts_of head) ≡ Some framing
    pub holds : P framing after

  -- the stream is an accepted head, which contradicts itself about the body, and then the rest
  pub record HasNoFraming (stream rest : List ℕ) : Type 0 where
    pub head : ResponseHead
    pub begins : HasAcceptedHead accepts stream head rest
    pub unframed : framing_of is_head head.minor (parts_of head) ≡ None

module _ (is_head : Bool) (limit : ℕ) (accepts : Parts → Bool) where
  -- the stream is a message whose head is accepted and whose body is within the limit, and then the rest
  pub record IsGood (stream rest : List ℕ) : Type 0 where
    pub head : ResponseHead
    pub after : List ℕ
    pub begins : HasAcceptedHead accepts stream head after
    pub framing : Framing
    pub framed : framing_of is_head head.minor (parts_of head) ≡ Some framing
    pub size : ℕ
    pub small : size ≤ limit
    pub body : HasBody framing after size rest

-- by whether the request asks for the head alone, the limit, whether there is a validator, and what is accepted
module _ (is_head : Bool) (limit : ℕ) (has_validator : Bool) (accepts : Parts → Bool) where
  -- what a check does to the stream
  abbrev pub CheckOutcome : Result Unit CheckError → List ℕ → List ℕ → Type 0
  CheckOutcome (Ok _) stream rest = IsGood is_head limit accepts stream rest
  CheckOutcome (Err BadHead) stream rest = HasBadHead stream rest
  CheckOutcome (Err HeadTooLarge) stream rest = HasLargeHead stream rest
  CheckOutcome (Err Interim) stream rest = IsInterim stream rest
  CheckOutcome (Err (Status s)) stream rest = (has_validator ≡ false) × HasRefusedHead accepts s stream rest
  CheckOutcome (Err Rejected) stream rest =
      (has_validator ≡ true) × (status : ℕ) × HasRefusedHead accepts status stream rest
  CheckOutcome (Err BadFraming) stream rest =
      HasNoFraming is_head accepts stream rest
      ⊎ HasFramed is_head accepts (λ f after. NeverHasBody f after × IsMisframed limit f after rest) stream
  CheckOutcome (Err EndInMessage) stream rest =
      (rest ≡ []) × (EndsInHead stream ⊎ HasFramed is_head accepts (λ f after. HasNoBody f after × IsCut limit f after rest) stream)
  CheckOutcome (Err BodyTooLarge) stream rest =
      HasFramed is_head accepts (λ f after. IsLarge limit f after rest) stream
  CheckOutcome (Err Read) stream rest = ⊤
  CheckOutcome (Err OutOfMemory) stream rest = ⊤
  CheckOutcome (Err e) stream rest = ⊥

-- the check passed, a device failed, or memory was refused
abbrev pub IsOkOrFailed : Bool → Bool → Result Unit CheckError → Type 0
IsOkOrFailed reader writer (Ok _) = ⊤
IsOkOrFailed reader writer (Err Read) = reader ≡ true
IsOkOrFailed reader writer (Err Write) = writer ≡ true
IsOkOrFailed reader writer (Err OutOfMemory) = ⊤
IsOkOrFailed reader writer (Err e) = ⊥

-- the address with that port, if one is given
abbrev pub at_port : InetAddr → Option ℕ → InetAddr
at_port addr None = addr
at_port (V4 octets own) (Some port) = V4 octets port
at_port (V6 octets own) (Some port) = V6 octets port
