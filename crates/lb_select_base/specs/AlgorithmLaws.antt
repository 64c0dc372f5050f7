-- The laws that the algorithms owe: which draws are random, and how many words one word takes.
use Rattle.std.specs.Prelude.{◌≡◌, ℕ, ◌≤◌, List, [], ◌∷◌}
use Rattle.std.proofs.Common.{arith, sym, ap, subst}
use Rattle.std.specs.List.{AllByRecursion as Each}
use Rattle.lb_select_base.specs.Draws.{Draw, ticket, random, IsNotRandom, words_in}

-- no draw at all
pub none_drawn : (P : Draw → Type 0) (ds : List Draw) → ds ≡ [] → Each P ds
none_drawn P ds e = let Q : List Draw → Type 0 = λ x. Each P x in subst Q (sym e) tt

-- a ticket is not random
pub ticket_drawn : (w : ℕ) (ds : List Draw) → ds ≡ ticket w ∷ [] → Each IsNotRandom ds
ticket_drawn w ds e = let Q : List Draw → Type 0 = λ x. Each IsNotRandom x in subst Q (sym e) (tt, tt)

-- no draw has no word
pub no_word : (ds : List Draw) → ds ≡ [] → words_in ds ≤ 1
no_word ds e = omega (arith, ap words_in e)

-- a ticket is one word, and so is a random one
pub one_ticket : (w : ℕ) (ds : List Draw) → ds ≡ ticket w ∷ [] → words_in ds ≤ 1
one_ticket w ds e = omega (arith, ap words_in e)

pub one_random : (w : ℕ) (ds : List Draw) → ds ≡ random w ∷ [] → words_in ds ≤ 1
one_random w ds e = omega (arith, ap words_in e)
