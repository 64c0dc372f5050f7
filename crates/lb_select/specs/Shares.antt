-- Shares of a weighted selector: over a whole turn of consecutive words each backend is chosen exactly its weight times,
-- and no backend escapes a walk whose words are consecutive. Words are consecutive where they are tickets of a counter
-- that does not wrap. And a walk's draws leave no choice: they determine its candidates.
use Rattle.std.specs.Prelude.{◌≡◌, ℕ, Bool, zero, suc, ◌+◌, ◌^◌, ◌<◌, ◌≤◌, List, [], ◌∷◌, map, length, Contains, count_by}
use Rattle.std.specs.List.{AllZip}
use Rattle.std.specs.List.Sorted.{IsStrictlySortedBy}
use Rattle.lb_select_base.specs.Backends.{Member, member_cmp, same_member}
use Rattle.lb_select_base.specs.Draws.{Draw, ticket, Gives}
use Rattle.lb_select.specs.Weights.{total_weight, IsFirstChoice, AreCandidates, IsWeightedWalk}

-- a word and those after it, each one more than the one before; so many in all
abbrev pub words_from : ℕ → ℕ → List ℕ
words_from w zero = []
words_from w (suc n) = w ∷ words_from (w + 1) n

-- the first choices of a whole turn, which is as many consecutive words as the total weight: each word has one, and
-- whatever they are, each backend is among them exactly its weight times
abbrev pub AreExactShares : List Member → ℕ → Type 0
AreExactShares ms w =
    ((cs : List Member) × AllZip (IsFirstChoice ms) (words_from w (total_weight ms)) cs)
    × ((cs : List Member) → AllZip (IsFirstChoice ms) (words_from w (total_weight ms)) cs
    → (m : Member) → Contains ms m → count_by (same_member m) cs ≡ m.weight)

-- the candidates of a word and of as many words after it as there are backends: they are there, and whatever they are,
-- each backend is one of them
abbrev pub VisitsAll : List Member → ℕ → Type 0
VisitsAll ms w =
    ((cs : List Member) × AreCandidates ms w (words_from (w + 1) (length ms)) cs)
    × ((cs : List Member) → AreCandidates ms w (words_from (w + 1) (length ms)) cs → (m : Member) → Contains ms m → Contains cs m)

-- the backends of a set that weigh something, from any word on
abbrev pub WeightsAreExact : Type 0
WeightsAreExact =
    (ms : List Member) → IsStrictlySortedBy member_cmp ms → 0 < total_weight ms → (w : ℕ) → AreExactShares ms w

abbrev pub AllAreVisited : Type 0
AllAreVisited =
    (ms : List Member) → IsStrictlySortedBy member_cmp ms → 0 < total_weight ms → (w : ℕ) → VisitsAll ms w

-- tickets of a source are consecutive from its counter on, up to the one where the counter wraps
abbrev pub TicketsAreConsecutive : {S : Type 0} → (S → Draw → S → Type 0) → (S → ℕ) → Type 0
TicketsAreConsecutive {S} gives tickets =
    (s t : S) (ws : List ℕ) → Gives gives s (map ticket ws) t → tickets s + length ws ≤ 2 ^ 64
    → ws ≡ words_from (tickets s) (length ws)

-- two walks over one set with the same key and the same draws give the same candidates, as far as both go
abbrev pub WalksAreDetermined : (List ℕ → List Draw → ℕ → Type 0) → Type 0
WalksAreDetermined gives_word =
    (ms : List Member) → IsStrictlySortedBy member_cmp ms → (key : List ℕ) (draws : List Draw) (cs bs : List Member) (e f : Bool)
    → IsWeightedWalk gives_word ms key draws cs e → IsWeightedWalk gives_word ms key draws bs f → length cs ≡ length bs
    → cs ≡ bs
