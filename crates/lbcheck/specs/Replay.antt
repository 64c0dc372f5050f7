-- A check of stored bytes: what it says of them, and how many come after what it read.
use Rattle.std.specs.Prelude.{ℕ, Bool, true, List, Result}
use Rattle.http.specs.declared.response.Parts.{Parts}
use Rattle.lb_stream.specs.Stream.{Takes}
use Rattle.lb_health_core.specs.declared.error.CheckError.{CheckError}
use Rattle.lb_health_http.specs.Check.{IsGood, CheckOutcome, IsOkOrFailed}

-- the check had that outcome and left a rest; so many bytes of that were counted, up to `end`
module _ (is_head : Bool) (limit : ℕ) (has_validator : Bool) (accepts : Parts → Bool) (outcome : Result Unit CheckError) where
  abbrev pub ReplayOutcome : ℕ → List ℕ → List ℕ → Type 0
  ReplayOutcome unread stream end =
      (rest : List ℕ) × CheckOutcome is_head limit has_validator accepts outcome stream rest × Takes unread rest end

module _ (is_head : Bool) (limit : ℕ) (accepts : Parts → Bool) (outcome : Result Unit CheckError) where
  -- a good answer passed, or a device or memory failed
  abbrev pub GoodPasses : List ℕ → List ℕ → Type 0
  GoodPasses stream end = (other : List ℕ) → IsGood is_head limit accepts stream other → IsOkOrFailed true true outcome
