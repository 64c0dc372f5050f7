-- What the faults of a head say of each other: of one stream there is one.
use Rattle.std.specs.Prelude.{◌≡◌, ℕ, ◌⊎◌, Bool, List, Result, Err}
use Rattle.http.specs.declared.response.Parts.{Parts}
use Rattle.lb_health_core.specs.declared.error.CheckError.{CheckError}
use Rattle.lb_health_core.specs.declared.error.CheckError.TheVariants.{Read, OutOfMemory}
use Rattle.lb_health_http.specs.Check.{CheckOutcome}

-- the answer is that fault, or a device failed, or memory was refused
abbrev pub IsFaultOrFailed : CheckError → Result Unit CheckError → Type 0
IsFaultOrFailed fault r = (r ≡ Err fault) ⊎ ((r ≡ Err Read) ⊎ (r ≡ Err OutOfMemory))

-- whatever the request, the limit and what is accepted, no check of the stream has another answer than that fault
abbrev pub HasFaultAlone : CheckError → List ℕ → Type 0
HasFaultAlone fault stream =
    (is_head : Bool) (limit : ℕ) (has_validator : Bool) (accepts : Parts → Bool) (r : Result Unit CheckError) (rest : List ℕ)
    → CheckOutcome is_head limit has_validator accepts r stream rest → IsFaultOrFailed fault r
