-- Refusals: their numbers, what it is for a call to be refused exactly for its cause, and the least of several causes.
use Rattle.std.specs.Prelude.{◌≡◌, ◌⊎◌, ℕ, nat_lt, List, [], ◌∷◌, codes, Option, Some, None, Result, Ok, Err, if◌then◌else◌}
use Rattle.lb_select_base.specs.declared.refusal.Refusal.{Refusal}
use Rattle.lb_select_base.specs.declared.refusal.Refusal.TheVariants.{InvalidAddress, Discovery, TooManyBackends, WeightTooLarge}
use Rattle.lb_select_base.specs.declared.refusal.Refusal.TheVariants.{TooManyPoints, HealthCheckSet, GenerationsExhausted, GroupCancelled}
use Rattle.lb_select_base.specs.declared.refusal.Refusal.TheVariants.{NoSuch, OutOfMemory, StillRead, NothingInFlight, NothingBuilt}
use Rattle.lb_select_base.specs.declared.refusal.Refusal.TheVariants.{NothingRetired, NoSuchReader, NotEnoughWords, NumbersExhausted}

-- the number of a refusal
abbrev pub refusal_number : Refusal → ℕ
refusal_number InvalidAddress = 1
refusal_number Discovery = 2
refusal_number TooManyBackends = 3
refusal_number WeightTooLarge = 4
refusal_number TooManyPoints = 5
refusal_number HealthCheckSet = 6
refusal_number GenerationsExhausted = 7
refusal_number GroupCancelled = 8
refusal_number NoSuch = 9
refusal_number OutOfMemory = 10
refusal_number (StillRead n) = 11
refusal_number NothingInFlight = 12
refusal_number NothingBuilt = 13
refusal_number NothingRetired = 14
refusal_number NoSuchReader = 15
refusal_number NotEnoughWords = 16
refusal_number NumbersExhausted = 17

-- the name of a refusal, without what it carries
abbrev pub refusal_name : Refusal → List ℕ
refusal_name InvalidAddress = codes "InvalidAddress"
refusal_name Discovery = codes "Discovery"
refusal_name TooManyBackends = codes "TooManyBackends"
refusal_name WeightTooLarge = codes "WeightTooLarge"
refusal_name TooManyPoints = codes "TooManyPoints"
refusal_name HealthCheckSet = codes "HealthCheckSet"
refusal_name GenerationsExhausted = codes "GenerationsExhausted"
refusal_name GroupCancelled = codes "GroupCancelled"
refusal_name NoSuch = codes "NoSuch"
refusal_name OutOfMemory = codes "OutOfMemory"
refusal_name (StillRead n) = codes "StillRead"
refusal_name NothingInFlight = codes "NothingInFlight"
refusal_name NothingBuilt = codes "NothingBuilt"
refusal_name NothingRetired = codes "NothingRetired"
refusal_name NoSuchReader = codes "NoSuchReader"
refusal_name NotEnoughWords = codes "NotEnoughWords"
refusal_name NumbersExhausted = codes "NumbersExhausted"

-- a call with at most one cause to refuse: it is refused for it, and for memory only where there is none
abbrev pub Refuses : {T : Type 0} → Option Refusal → (T → Type 0) → Result T Refusal → Type 0
Refuses cause made (Ok t) = (cause ≡ None) × made t
Refuses cause made (Err e) = (cause ≡ Some e) ⊎ ((cause ≡ None) × (e ≡ OutOfMemory))

-- a cause other than a refusal of memory
abbrev pub memory_apart : Option Refusal → Option Refusal
memory_apart None = None
memory_apart (Some OutOfMemory) = None
memory_apart (Some e) = Some e

-- of two causes the one of the lesser number; the first one where the numbers are equal
abbrev pub earlier : Option Refusal → Option Refusal → Option Refusal
earlier None b = b
earlier (Some e) None = Some e
earlier (Some e) (Some f) = if nat_lt (refusal_number f) (refusal_number e) then Some f else Some e

-- of all causes the one of the least number, or none where none applies
abbrev pub least : List (Option Refusal) → Option Refusal
least [] = None
least (c ∷ cs) = earlier (memory_apart c) (least cs)
