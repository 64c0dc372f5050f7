-- A good answer gives no fault but that of a device or of memory.
use Rattle.std.proofs.Common.{◌≡◌, ℕ, ◌≤◌, inl, inr, Bool, true, false, List, [], ◌∷◌, ◌++◌, None, Some, Result, Ok, Err, refl, sym}
use Rattle.std.proofs.Common.{ap, ◌∙◌, subst, arith}
use Rattle.std.specs.Bool.{⊤}
use Rattle.http.specs.declared.response.Parts.{Parts}
use Rattle.httparse.specs.Grammar.{ResponseHead, status_code}
use Rattle.httparse.proofs.GrammarLemmas.{response_unique}
use Rattle.lb_health_core.specs.declared.error.CheckError.{CheckError}
use Rattle.lb_health_core.specs.declared.error.CheckError.TheVariants.{BadHead, HeadTooLarge, Interim, Status, Rejected, BadFraming}
use Rattle.lb_health_core.specs.declared.error.CheckError.TheVariants.{EndInMessage, BodyTooLarge, Write, Read, OutOfMemory}
use Rattle.lb_health_http.specs.declared.framing.Framing.{Framing}
use Rattle.lb_health_http.specs.declared.framing.Framing.TheVariants.{Nothing, Sized, Chunked, ToEnd}
use Rattle.lb_health_http.specs.Body.{HasBody, IsLarge}
use Rattle.lb_health_http.specs.Check.{HasAcceptedHead, HasRefusedHead, IsGood, CheckOutcome, IsOkOrFailed}
use Rattle.lb_health_http.specs.Framing.{framing_of}
use Rattle.lb_health_http.specs.Parts.{parts_of}
use Rattle.lb_health_http.proofs.ChunkLemmas.{large_size}
use Rattle.lb_health_http.proofs.FaultLemmas.{bad_no_head, large_no_head}

-- the check passed, a read failed, or memory was refused
abbrev pub IsOkOrDevice : Result Unit CheckError → Type 0
IsOkOrDevice (Ok _) = ⊤
IsOkOrDevice (Err Read) = ⊤
IsOkOrDevice (Err OutOfMemory) = ⊤
IsOkOrDevice (Err e) = ⊥

module _ (is_head : Bool) (limit : ℕ) (accepts : Parts → Bool) where
  -- what is large is no body within the limit
  not_large : (f : Framing) (after : List ℕ) (size : ℕ) (rest : List ℕ) → HasBody f after size rest → size ≤ limit
      → (end : List ℕ) → IsLarge limit f after end → ⊥
  not_large Nothing after size rest b small end large = large
  not_large (Sized n) after size rest b small end large = let above = large.0 in omega (arith, b.0, above)
  not_large Chunked after size rest b small end large =
      let more = large_size large.0 limit after end large.1 size rest b in omega arith
  not_large ToEnd after size rest b small end large = omega (arith, b.0)

  -- the good answer's body, at another spelling of its head and framing
  its_body : (s other a : List ℕ) (h : ResponseHead) (f : Framing) → HasAcceptedHead accepts s h a
      → framing_of is_head h.minor (parts_of h) ≡ Some f → (good : IsGood is_head limit accepts s other) → HasBody f a good.size other
  its_body s other a h f begun framed good =
      let same = response_unique s h good.head a good.after begun.begins.reads good.begins.begins.reads in
      let both : Some f ≡ Some good.framing =
      sym framed ∙ ap (λ (k : ResponseHead). framing_of is_head k.minor (parts_of k)) same.0 ∙ good.framed in
      let one : f ≡ good.framing = cc in
      subst (λ (g : Framing). HasBody g a good.size other) (sym one)
      (subst (λ (l : List ℕ). HasBody good.framing l good.size other) (sym same.1) good.body)

  not_refused : (s rest other : List ℕ) (code : ℕ) → HasRefusedHead accepts code s rest → IsGood is_head limit accepts s other → ⊥
  not_refused s rest other code refused good =
      let same = response_unique s refused.head good.head rest good.after refused.begins.reads good.begins.begins.reads in
      let no_good : accepts (parts_of good.head) ≡ false = ap (λ (k : ResponseHead). accepts (parts_of k)) (sym same.0) ∙ refused.refused in
      let is_good : accepts (parts_of good.head) ≡ true = good.begins.accepted in
      cc

  pub only_good : (has_validator : Bool) (s rest other : List ℕ) (r : Result Unit CheckError)
      → CheckOutcome is_head limit has_validator accepts r s rest → IsGood is_head limit accepts s other → IsOkOrDevice r
  only_good has_validator s rest other (Ok _) o good = tt
  only_good has_validator s rest other (Err BadHead) o good = bad_no_head s rest good.after good.head o good.begins.begins
  only_good has_validator s rest other (Err HeadTooLarge) o good =
      large_no_head s rest good.after good.head o good.begins.begins
  only_good has_validator s rest other (Err Interim) o good =
      let same = response_unique s o.head good.head rest good.after o.begins.reads good.begins.begins.reads in
      let codes_same : status_code o.head ≡ status_code good.head = ap status_code same.0 in
      let low = o.interim in
      let final = good.begins.final in
      omega arith
  only_good has_validator s rest other (Err (Status code)) o good = not_refused s rest other code o.1 good
  only_good has_validator s rest other (Err Rejected) o good = not_refused s rest other o.1 o.2 good
  only_good has_validator s rest other (Err BadFraming) (inl o) good =
      let same = response_unique s o.head good.head rest good.after o.begins.begins.reads good.begins.begins.reads in
      let none : framing_of is_head good.head.minor (parts_of good.head) ≡ None =
      ap (λ (k : ResponseHead). framing_of is_head k.minor (parts_of k)) (sym same.0) ∙ o.unframed in
      let some = good.framed in
      cc
  only_good has_validator s rest other (Err BadFraming) (inr o) good =
      let body = its_body s other o.after o.head o.framing o.begins o.framed good in
      let never = o.holds.0 in
      never.3 never.1 good.size other (subst (λ (l : List ℕ). HasBody o.framing l good.size other) never.2 body)
  only_good has_validator s rest other (Err EndInMessage) (over, inl o) good = o.none good.head good.after good.begins.begins.reads
  only_good has_validator s rest other (Err EndInMessage) (over, inr o) good =
      o.holds.0 good.size other (its_body s other o.after o.head o.framing o.begins o.framed good)
  only_good has_validator s rest other (Err BodyTooLarge) o good =
      not_large o.framing o.after good.size other (its_body s other o.after o.head o.framing o.begins o.framed good) good.small rest o.holds
  only_good has_validator s rest other (Err Read) o good = tt
  only_good has_validator s rest other (Err OutOfMemory) o good = tt
  only_good has_validator s rest other (Err e) o good = absurd o

-- with the words of the devices
pub or_failed : (reader writer : Bool) (r : Result Unit CheckError) → (r ≡ Err Read → reader ≡ true) → IsOkOrDevice r
    → IsOkOrFailed reader writer r
or_failed reader writer (Ok _) read d = tt
or_failed reader writer (Err Read) read d = read refl
or_failed reader writer (Err OutOfMemory) read d = tt
or_failed reader writer (Err e) read d = absurd d

-- a writer that hasn't failed, for any
pub any_writer : (reader writer : Bool) (r : Result Unit CheckError) → IsOkOrFailed reader false r → IsOkOrFailed reader writer r
any_writer reader writer (Ok _) d = tt
any_writer reader writer (Err Read) d = d
any_writer reader writer (Err Write) d = absurd (cc)
any_writer reader writer (Err OutOfMemory) d = tt
any_writer reader writer (Err e) d = absurd d
