-- The laws that the weighted selector owes: which draws of a walk are random, how many words it draws, and that a walk that
-- is over gives nothing more.
use Rattle.std.specs.Prelude.{◌≡◌, ℕ, ◌+◌, ◌≤◌, max, Bool, true, false, List, [], ◌∷◌, ◌++◌, length, refl}
use Rattle.std.proofs.Common.{arith, sym, ap, subst, w64}
use Rattle.std.specs.Int.{to_le_bytes}
use Rattle.std.specs.List.{AllByRecursion as Each}
use Rattle.std.proofs.lemmas.Slice.Zip.{AllZip-long}
use Rattle.lb_select_base.specs.Backends.{Member}
use Rattle.lb_select_base.specs.Draws.{Draw, words_in}
use Rattle.lb_select_base.specs.AlgorithmLaws.{none_drawn}
use Rattle.lb_select.specs.Weights.{Words, total_weight, IsFallback, AreCandidates, RestCandidates, IsWeightedWalk, IsWeightedRest}

-- two lists of draws, none of them random
Each-append : (P : Draw → Type 0) (xs ys : List Draw) → Each P xs → Each P ys → Each P (xs ++ ys)
Each-append P [] ys h k = k
Each-append P (x ∷ xs) ys h k = (h.0, Each-append P xs ys h.1 k)

-- the words of two lists of draws
words_in-append : (xs ys : List Draw) → words_in (xs ++ ys) ≡ words_in xs + words_in ys
words_in-append [] ys = omega arith
words_in-append (x ∷ xs) ys = omega (arith, words_in-append xs ys)

-- what holds of the draws of each word holds of all draws of a walk
pub Each-words :
    (gives_word : List ℕ → List Draw → ℕ → Type 0) (P : Draw → Type 0)
    → ((key : List ℕ) (ds : List Draw) (w : ℕ) → gives_word key ds w → Each P ds)
    → (key : List ℕ) (words : List ℕ) (draws : List Draw) → Words gives_word key words draws → Each P draws
Each-words gives_word P each key [] draws h = none_drawn P draws h
Each-words gives_word P each key (word ∷ words) draws (now, later, whole, gave, rest) =
    let Q : List Draw → Type 0 = λ x. Each P x in
    let tail = Each-words gives_word P each (to_le_bytes w64 word) words later rest in
    subst Q (sym whole) (Each-append P now later (each key now word gave) tail)

-- where each word takes one draw, a walk draws no more words than it has
words_drawn :
    (gives_word : List ℕ → List Draw → ℕ → Type 0)
    → ((key : List ℕ) (ds : List Draw) (w : ℕ) → gives_word key ds w → words_in ds ≤ 1)
    → (key : List ℕ) (words : List ℕ) (draws : List Draw) → Words gives_word key words draws → words_in draws ≤ length words
words_drawn gives_word one key [] draws h = omega (arith, ap words_in h)
words_drawn gives_word one key (word ∷ words) draws (now, later, whole, gave, rest) =
    omega (
      arith,
      ap words_in whole,
      words_in-append now later,
      one key now word gave,
      words_drawn gives_word one (to_le_bytes w64 word) words later rest,
    )

-- the words of a walk are as many as its candidates, and one where there are none
words_counted :
    (ms : List Member) (word : ℕ) (later : List ℕ) (cs : List Member)
    → AreCandidates ms word later cs → length (word ∷ later) ≤ max 1 (length cs)
words_counted ms word later [] h = omega (arith, ap length h)
words_counted ms word later (c ∷ cs) h = omega (arith, AllZip-long (IsFallback ms) later cs h.1)

-- a walk draws as many words as it has candidates, and one where there are none
pub few_words :
    (gives_word : List ℕ → List Draw → ℕ → Type 0)
    → ((key : List ℕ) (ds : List Draw) (w : ℕ) → gives_word key ds w → words_in ds ≤ 1)
    → (ms : List Member) (key : List ℕ) (draws : List Draw) (cs : List Member) (ended : Bool)
    → IsWeightedWalk gives_word ms key draws cs ended → words_in draws ≤ max 1 (length cs)
few_words gives_word one ms key draws cs ended h =
    omega (arith, words_drawn gives_word one key (h.word ∷ h.later) draws h.drawn, words_counted ms h.word h.later cs h.candidates)

-- a walk that has given nothing yet
pub rest_none :
    (gives_word : List ℕ → List Draw → ℕ → Type 0) (first : Bool) (ms : List Member) (word : ℕ)
    → IsWeightedRest gives_word first ms word [] [] false
rest_none gives_word true ms word = record { later = []; drawn = refl; candidates = refl; end = λ e. absurd (cc) }
rest_none gives_word false ms word = record { later = []; drawn = refl; candidates = tt; end = λ e. absurd (cc) }

-- without weight there is no candidate, and no word but the first
rest_empty :
    (first : Bool) (ms : List Member) (word : ℕ) (later : List ℕ) (cs : List Member)
    → total_weight ms ≡ 0 → RestCandidates first ms word later cs → (later ≡ []) × (cs ≡ [])
rest_empty true ms word later [] none h = (h, refl)
rest_empty true ms word later (c ∷ cs) none h = absurd (omega (arith, h.0.0))
rest_empty false ms word [] [] none h = (refl, refl)
rest_empty false ms word [] (c ∷ cs) none h = absurd h
rest_empty false ms word (w ∷ later) [] none h = absurd h
rest_empty false ms word (w ∷ later) (c ∷ cs) none h = absurd (omega (arith, h.0.0))

-- no words, no draws
undrawn_words :
    (gives_word : List ℕ → List Draw → ℕ → Type 0) (key : List ℕ) (words : List ℕ) (draws : List Draw)
    → words ≡ [] → Words gives_word key words draws → draws ≡ []
undrawn_words gives_word key [] draws e h = h
undrawn_words gives_word key (w ∷ words) draws e h = absurd (cc)

-- a walk that is over draws nothing and gives nothing
pub rest_ends :
    (gives_word : List ℕ → List Draw → ℕ → Type 0) (first : Bool) (ms : List Member) (word : ℕ)
    (ds : List Draw) (cs : List Member) (e : Bool)
    → IsWeightedRest gives_word first ms word [] [] true → IsWeightedRest gives_word first ms word ds cs e
    → (ds ≡ []) × (cs ≡ [])
rest_ends gives_word first ms word ds cs e over h =
    let empty = rest_empty first ms word h.later cs (over.end refl) h.candidates in
    (undrawn_words gives_word (to_le_bytes w64 word) h.later ds empty.0 h.drawn, empty.1)
