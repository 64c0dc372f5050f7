-- The laws that a selector by least connections owes: it draws no words, and a walk that is over gives nothing more.
use Rattle.std.specs.Prelude.{◌≡◌, ℕ, ◌+◌, ◌≤◌, max, Bool, true, false, List, [], ◌∷◌, map, length, refl}
use Rattle.std.proofs.Common.{arith, sym, ap, subst, true≢false}
use Rattle.std.specs.List.{AllByRecursion as Each}
use Rattle.std.proofs.lemmas.Option.{none-some, slice_get_within}
use Rattle.lb_select_base.specs.Backends.{Member}
use Rattle.lb_select_base.specs.Draws.{Draw, load, IsNotRandom, words_in}
use Rattle.lb_select.specs.LeastLoads.{IsLeastWalk}
use Rattle.lb_select.specs.Readings.{IsLeastRest}
use Rattle.lb_select.specs.declared.reading.Reading.{Reading}

loads_are_not_random : (read : List (Member × ℕ)) → Each IsNotRandom (map (λ e. load e.0 e.1) read)
loads_are_not_random [] = tt
loads_are_not_random (e ∷ read) = (tt, loads_are_not_random read)

loads_are_no_words : (read : List (Member × ℕ)) → words_in (map (λ e. load e.0 e.1) read) ≡ 0
loads_are_no_words [] = refl
loads_are_no_words (e ∷ read) = omega (arith, loads_are_no_words read)

-- no walk draws random words, and none draws words at all
pub least_undrawn :
    (ms : List Member) (ds : List Draw) (cs : List Member) (e : Bool) → IsLeastWalk ms ds cs e → Each IsNotRandom ds
least_undrawn ms ds cs e w =
    let P : List Draw → Type 0 = λ x. Each IsNotRandom x in subst P (sym w.drawn) (loads_are_not_random w.read)

pub least_few_words :
    (ms : List Member) (ds : List Draw) (cs : List Member) (e : Bool) → IsLeastWalk ms ds cs e → words_in ds ≤ max 1 (length cs)
least_few_words ms ds cs e w = omega (arith, ap words_in w.drawn, loads_are_no_words w.read)

-- a walk that has given nothing yet
pub rest_starts : (ms : List Member) (order : List Reading) (at : ℕ) → IsLeastRest ms order at [] [] false
rest_starts ms order at = record {
  undrawn = refl;
  candidates = λ k c h. absurd (none-some c h);
  end = λ e. absurd (true≢false (sym e));
}

-- a walk that is over gives nothing more
pub rest_ends :
    (ms : List Member) (order : List Reading) (at : ℕ) (ds : List Draw) (cs : List Member) (e : Bool)
    → IsLeastRest ms order at [] [] true → IsLeastRest ms order at ds cs e → (ds ≡ []) × (cs ≡ [])
rest_ends ms order at ds [] e over w = (w.undrawn, refl)
rest_ends ms order at ds (c ∷ cs) e over w =
    let (r, here, is) = w.candidates 0 c refl in
    absurd (omega (arith, over.end refl, slice_get_within order (at + 0) r here))
