-- Weighted candidates. The backends are in the order of the set, and the partial sums of their weights cut the places
-- from 0 to the total into intervals, one for each backend. A walk's first word chooses by interval, each later word by
-- rank among the backends. Where the total is 0 no candidate comes.
use Rattle.std.specs.Prelude.{◌≡◌, ℕ, ◌+◌, ◌%◌, ◌^◌, ◌<◌, ◌≤◌, Bool, true, false, cond, nat_lt, Option, Some, None}
use Rattle.std.specs.Prelude.{List, [], ◌∷◌, ◌++◌, length, take, Contains, sum_by, count_by}
use Rattle.std.proofs.Common.{w64, is_lt}
use Rattle.std.specs.Int.{to_le_bytes}
use Rattle.std.specs.List.{AllZip, slice_get}
use Rattle.lb_select_base.specs.Backends.{Member, member_cmp}
use Rattle.lb_select_base.specs.Draws.{Draw}
use Rattle.lb_select_base.specs.declared.refusal.Refusal.{Refusal}
use Rattle.lb_select_base.specs.declared.refusal.Refusal.TheVariants.{TooManyBackends, WeightTooLarge}

-- the words of a walk: the first is the key's, each later one that of the 8 bytes of the word before it, the lowest first
abbrev pub Words : (List ℕ → List Draw → ℕ → Type 0) → List ℕ → List ℕ → List Draw → Type 0
Words gives_word key [] draws = draws ≡ []
Words gives_word key (word ∷ words) draws =
    (now : List Draw) × (later : List Draw) × (draws ≡ now ++ later) × gives_word key now word
    × Words gives_word (to_le_bytes w64 word) words later

-- the sum of all weights
abbrev pub total_weight : List Member → ℕ
total_weight ms = sum_by (λ m. m.weight) ms

-- why a build is refused, memory apart: more than 65535 backends, or a total of 2 ^ 64 or more
abbrev pub weighted_refusal : List Member → Option Refusal
weighted_refusal ms =
    cond (nat_lt 65535 (length ms)) (Some TooManyBackends) (cond (nat_lt (total_weight ms) (2 ^ 64)) None (Some WeightTooLarge))

-- the interval of the backend at this index holds the place
pub record HoldsPlace (ms : List Member) (place index : ℕ) : Type 0 where
  pub from : total_weight (take index ms) ≤ place
  pub below : place < total_weight (take (index + 1) ms)

-- the first choice of a word: the backend whose interval holds the word modulo the total
abbrev pub IsFirstChoice : List Member → ℕ → Member → Type 0
IsFirstChoice ms word m =
    (0 < total_weight ms) × (index : ℕ) × HoldsPlace ms (word % total_weight ms) index × (slice_get ms index ≡ Some m)

-- the fallback of a word: the backend that has as many smaller ones as the word modulo the count
abbrev pub IsFallback : List Member → ℕ → Member → Type 0
IsFallback ms word m =
    (0 < total_weight ms) × Contains ms m × (count_by (λ c. is_lt (member_cmp c m)) ms ≡ word % length ms)

-- the candidates of a first word and of later ones; the first word is drawn also where no candidate comes
abbrev pub AreCandidates : List Member → ℕ → List ℕ → List Member → Type 0
AreCandidates ms word later [] = later ≡ []
AreCandidates ms word later (c ∷ cs) = IsFirstChoice ms word c × AllZip (IsFallback ms) later cs

-- a walk for a key: its draws, the first candidates, and whether it ended, which it does only where the total is 0
pub record IsWeightedWalk
    (gives_word : List ℕ → List Draw → ℕ → Type 0) (ms : List Member) (key : List ℕ)
    (draws : List Draw) (cs : List Member) (ended : Bool) : Type 0 where
  pub word : ℕ
  pub later : List ℕ
  pub drawn : Words gives_word key (word ∷ later) draws
  pub candidates : AreCandidates ms word later cs
  pub end : ended ≡ true → total_weight ms ≡ 0

-- the candidates that are left, before the first or after it
abbrev pub RestCandidates : Bool → List Member → ℕ → List ℕ → List Member → Type 0
RestCandidates true ms word later cs = AreCandidates ms word later cs
RestCandidates false ms word later cs = AllZip (IsFallback ms) later cs

-- what is left of a walk whose last word was `word`
pub record IsWeightedRest
    (gives_word : List ℕ → List Draw → ℕ → Type 0) (first : Bool) (ms : List Member) (word : ℕ)
    (draws : List Draw) (cs : List Member) (ended : Bool) : Type 0 where
  pub later : List ℕ
  pub drawn : Words gives_word (to_le_bytes w64 word) later draws
  pub candidates : RestCandidates first ms word later cs
  pub end : ended ≡ true → total_weight ms ≡ 0
