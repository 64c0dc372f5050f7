-- A walk's draws determine its words, and its words its candidates.
use Rattle.std.specs.Prelude.{◌≡◌, ℕ, ◌-◌, ◌%◌, List, [], ◌∷◌, ◌++◌, length, refl}
use Rattle.std.proofs.Common.{arith, sym, ap, subst, subst₂, ◌∙◌, w64}
use Rattle.std.specs.Int.{to_le_bytes}
use Rattle.std.specs.List.{AllZip, slice_get}
use Rattle.std.specs.List.Sorted.{IsStrictlySortedBy}
use Rattle.std.proofs.lemmas.Option.{same_Some}
use Rattle.std.proofs.lemmas.Slice.Zip.{AllZip-long}
use Rattle.lb_select_base.specs.Backends.{Member, member_cmp}
use Rattle.lb_select_base.specs.Draws.{Draw, ticket, random}
use Rattle.lb_select_base.specs.Algorithms.{fnv}
use Rattle.lb_select.specs.Weights.{Words, total_weight, IsFirstChoice, IsFallback, AreCandidates}
use Rattle.lb_select.specs.Shares.{WalksAreDetermined}
use Rattle.lb_select.proofs.WeightLemmas.{member_cmp_total, smaller_count}
use Rattle.lb_select.proofs.Shares.{contained, one_interval}

-- a word has one first choice
first_is_one : (ms : List Member) (word : ℕ) (c b : Member) → IsFirstChoice ms word c → IsFirstChoice ms word b → c ≡ b
first_is_one ms word c b (weighs, i, here, p) (also, j, there, q) =
    let same : i ≡ j = one_interval ms (word % total_weight ms) i j here there in
    same_Some c b (sym p ∙ ap (slice_get ms) same ∙ q)

-- a word has one fallback
fallback_is_one :
    (ms : List Member) → IsStrictlySortedBy member_cmp ms → (word : ℕ) (c b : Member)
    → IsFallback ms word c → IsFallback ms word b → c ≡ b
fallback_is_one ms sorted word c b (weighs, within, rank) (also, inside, place) =
    let (i, p) = contained ms c within in
    let (j, q) = contained ms b inside in
    let same : i ≡ j =
    sym (smaller_count member_cmp_total ms i c sorted p) ∙ rank ∙ sym place ∙ smaller_count member_cmp_total ms j b sorted q in
    same_Some c b (sym p ∙ ap (slice_get ms) same ∙ q)

-- so have the words of a list, if as many are asked for
fallbacks_are_one :
    (ms : List Member) → IsStrictlySortedBy member_cmp ms → (words : List ℕ) (cs bs : List Member)
    → AllZip (IsFallback ms) words cs → AllZip (IsFallback ms) words bs → cs ≡ bs
fallbacks_are_one ms sorted [] [] [] h k = refl
fallbacks_are_one ms sorted [] [] (b ∷ bs) h k = absurd k
fallbacks_are_one ms sorted [] (c ∷ cs) bs h k = absurd h
fallbacks_are_one ms sorted (w ∷ words) [] bs h k = absurd h
fallbacks_are_one ms sorted (w ∷ words) (c ∷ cs) [] h k = absurd k
fallbacks_are_one ms sorted (w ∷ words) (c ∷ cs) (b ∷ bs) h k =
    let first : c ≡ b = fallback_is_one ms sorted w c b h.0 k.0 in
    let rest : cs ≡ bs = fallbacks_are_one ms sorted words cs bs h.1 k.1 in cc

-- a word and those after it have one list of candidates of each length
candidates_are_one :
    (ms : List Member) → IsStrictlySortedBy member_cmp ms → (word : ℕ) (later : List ℕ) (cs bs : List Member)
    → AreCandidates ms word later cs → AreCandidates ms word later bs → length cs ≡ length bs → cs ≡ bs
candidates_are_one ms sorted word later [] [] h k e = refl
candidates_are_one ms sorted word later [] (b ∷ bs) h k e = absurd (omega arith)
candidates_are_one ms sorted word later (c ∷ cs) [] h k e = absurd (omega arith)
candidates_are_one ms sorted word later (c ∷ cs) (b ∷ bs) h k e =
    let first : c ≡ b = first_is_one ms word c b h.0 k.0 in
    let rest : cs ≡ bs = fallbacks_are_one ms sorted later cs bs h.1 k.1 in cc

-- a word is determined by its key and the draws from it on, and so is what is drawn after it
abbrev pub TellsApart : (List ℕ → List Draw → ℕ → Type 0) → Type 0
TellsApart gives_word =
    (key : List ℕ) (now early later after : List Draw) (w v : ℕ) → now ++ later ≡ early ++ after
    → gives_word key now w → gives_word key early v → (w ≡ v) × (later ≡ after)

-- the words of a walk are determined by its draws
words_are_one :
    (gives_word : List ℕ → List Draw → ℕ → Type 0) → TellsApart gives_word
    → (key : List ℕ) (words others : List ℕ) (ds es : List Draw) → ds ≡ es
    → Words gives_word key words ds → Words gives_word key others es → length words ≡ length others → words ≡ others
words_are_one gives_word tells key [] [] ds es same h k e = refl
words_are_one gives_word tells key [] (v ∷ others) ds es same h k e = absurd (omega arith)
words_are_one gives_word tells key (w ∷ words) [] ds es same h k e = absurd (omega arith)
words_are_one gives_word tells key (w ∷ words) (v ∷ others) ds es same (now, later, whole, gave, rest) (early, after, all, given, more) e =
    let (first, next) = tells key now early later after w v (sym whole ∙ same ∙ all) gave given in
    let moved : Words gives_word (to_le_bytes w64 w) others after = subst (λ x. Words gives_word (to_le_bytes w64 x) others after)
    (sym first) more in
    let tail : words ≡ others = words_are_one gives_word tells (to_le_bytes w64 w) words others later after next rest moved (omega arith)
    in cc

-- as many words come after the first as candidates do
later_counted :
    (ms : List Member) (word : ℕ) (later : List ℕ) (cs : List Member) → AreCandidates ms word later cs → length later ≡ length cs - 1
later_counted ms word later [] h = omega (arith, ap length h)
later_counted ms word later (c ∷ cs) h = omega (arith, AllZip-long (IsFallback ms) later cs h.1)

-- the candidates of a walk are determined by its draws
walks_are_one : (gives_word : List ℕ → List Draw → ℕ → Type 0) → TellsApart gives_word → WalksAreDetermined gives_word
walks_are_one gives_word tells ms sorted key draws cs bs e f h k same =
    let counted = later_counted ms h.word h.later cs h.candidates in
    let also = later_counted ms k.word k.later bs k.candidates in
    let words : h.word ∷ h.later ≡ k.word ∷ k.later =
    words_are_one gives_word tells key (h.word ∷ h.later) (k.word ∷ k.later) draws draws refl h.drawn k.drawn
    (omega (arith, counted, also)) in
    let word : h.word ≡ k.word = cc words in
    let later : h.later ≡ k.later = cc words in
    let moved : AreCandidates ms k.word k.later cs = subst₂ (λ x l. AreCandidates ms x l cs) word later h.candidates in
    candidates_are_one ms sorted k.word k.later cs bs moved k.candidates same

-- hashed words are drawn from nothing
pub hashed_are_one : WalksAreDetermined (λ key ds w. (ds ≡ []) × (w ≡ fnv key))
hashed_are_one =
    walks_are_one _ (λ key now early later after w v same h k.
    (h.1 ∙ sym k.1, sym (ap (λ x. x ++ later) h.0) ∙ same ∙ ap (λ x. x ++ after) k.0))

-- tickets are read off the draws, and so are random words
pub tickets_are_one : WalksAreDetermined (λ key ds w. ds ≡ ticket w ∷ [])
tickets_are_one =
    walks_are_one _ (λ key now early later after w v same h k.
    let split : ticket w ∷ later ≡ ticket v ∷ after = sym (ap (λ x. x ++ later) h) ∙ same ∙ ap (λ x. x ++ after) k in
    (cc split, cc split))

pub randoms_are_one : WalksAreDetermined (λ key ds w. ds ≡ random w ∷ [])
randoms_are_one =
    walks_are_one _ (λ key now early later after w v same h k.
    let split : random w ∷ later ≡ random v ∷ after = sym (ap (λ x. x ++ later) h) ∙ same ∙ ap (λ x. x ++ after) k in
    (cc split, cc split))
