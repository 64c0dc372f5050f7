-- What selectors of each kind mean: the walks, the refusals of a build, and that only one kind draws random words.
use Rattle.std.specs.Prelude.{◌≡◌, ◌≤◌, ℕ, max, Bool, true, false, List, ◌∷◌, length, Option, None}
use Rattle.std.specs.List.{AllByRecursion as Each}
use Rattle.std.proofs.Common.{true≢false}
use Rattle.lb_select_base.specs.Backends.{Member}
use Rattle.lb_select_base.specs.Draws.{Draw, IsNotRandom, words_in}
use Rattle.lb_select_base.specs.Algorithms.{hash_word, ticket_word, random_word}
use Rattle.lb_select.specs.Weights.{IsWeightedWalk, weighted_refusal}
use Rattle.lb_select_base.specs.AlgorithmLaws.{none_drawn, ticket_drawn, no_word, one_ticket, one_random}
use Rattle.lb_select.specs.WeightLaws.{Each-words, few_words}
use Rattle.lb_select.specs.LeastLoads.{IsLeastWalk}
use Rattle.lb_select.specs.LeastLaws.{least_undrawn, least_few_words}
use Rattle.lb_select.specs.Choices.{IsRingWalk, ring_refusal}
use Rattle.lb_select.specs.RingLaws.{walk_undrawn, walk_few_words}
use Rattle.lb_select_base.specs.declared.refusal.Refusal.{Refusal}
use Rattle.lb_script.specs.declared.kinds.Kind.{Kind}
use Rattle.lb_script.specs.declared.kinds.Kind.TheVariants.{Fnv, RoundRobin, Ketama, Least, Random}

-- the walks of a kind over a set
abbrev pub kind_walks : List Member → Kind → List ℕ → List Draw → List Member → Bool → Type 0
kind_walks ms Fnv = IsWeightedWalk hash_word ms
kind_walks ms RoundRobin = IsWeightedWalk ticket_word ms
kind_walks ms Ketama = IsRingWalk ms
kind_walks ms Least = λ key. IsLeastWalk ms
kind_walks ms Random = IsWeightedWalk random_word ms

-- why a build of a kind is refused
abbrev pub kind_refusal : List Member → Kind → Option Refusal
kind_refusal ms Fnv = weighted_refusal ms
kind_refusal ms RoundRobin = weighted_refusal ms
kind_refusal ms Ketama = ring_refusal ms
kind_refusal ms Least = None
kind_refusal ms Random = weighted_refusal ms

-- the kind whose walks draw random words
abbrev pub kind_is_random : Kind → Bool
kind_is_random Fnv = false
kind_is_random RoundRobin = false
kind_is_random Ketama = false
kind_is_random Least = false
kind_is_random Random = true

-- no other kind draws a random word
pub kind_undrawn :
    (ms : List Member) (kind : Kind) → kind_is_random kind ≡ false
    → (key : List ℕ) (ds : List Draw) (cs : List Member) (e : Bool) → kind_walks ms kind key ds cs e → Each IsNotRandom ds
kind_undrawn ms Fnv never key ds cs e h =
    Each-words hash_word IsNotRandom (λ key ds w h. none_drawn IsNotRandom ds h.0) key (h.word ∷ h.later) ds h.drawn
kind_undrawn ms RoundRobin never key ds cs e h =
    Each-words ticket_word IsNotRandom (λ key ds w h. ticket_drawn w ds h) key (h.word ∷ h.later) ds h.drawn
kind_undrawn ms Ketama never key ds cs e h = walk_undrawn ms key ds cs e h
kind_undrawn ms Least never key ds cs e h = least_undrawn ms ds cs e h
kind_undrawn ms Random never key ds cs e h = absurd (true≢false never)

-- a walk draws at most as many words as it has candidates, and one where there are none
pub kind_few_words :
    (ms : List Member) (kind : Kind) (key : List ℕ) (ds : List Draw) (cs : List Member) (e : Bool)
    → kind_walks ms kind key ds cs e → words_in ds ≤ max 1 (length cs)
kind_few_words ms Fnv key ds cs e h = few_words hash_word (λ key ds w h. no_word ds h.0) ms key ds cs e h
kind_few_words ms RoundRobin key ds cs e h = few_words ticket_word (λ key ds w h. one_ticket w ds h) ms key ds cs e h
kind_few_words ms Ketama key ds cs e h = walk_few_words ms key ds cs e h
kind_few_words ms Least key ds cs e h = least_few_words ms ds cs e h
kind_few_words ms Random key ds cs e h = few_words random_word (λ key ds w h. one_random w ds h) ms key ds cs e h
