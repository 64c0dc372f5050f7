-- What every walk over a ring keeps to: nothing is drawn, and what has ended gives nothing more.
use Rattle.std.specs.Prelude.{◌≡◌, ℕ, ◌≤◌, max, Bool, true, false, List}
use Rattle.std.specs.Prelude.{[], ◌∷◌, length, Option, Some, None, refl, slice_get, option_and_then}
use Rattle.std.proofs.Common.{subst, arith}
use Rattle.std.specs.List.{AllByRecursion as Each}
use Rattle.lb_select_base.specs.Backends.{Member}
use Rattle.lb_select_base.specs.Draws.{Draw, IsNotRandom, words_in}
use Rattle.lb_select.specs.Choices.{IsRingWalk}
use Rattle.lb_select.specs.Placed.{Placed, member_at, index_here, member_here, YieldsFrom, IsWalkFrom}

-- a walk begins with nothing
pub walk_starts : (r : Placed) (at : ℕ) → IsWalkFrom r at [] [] false
walk_starts r at = record { undrawn = refl; candidates = tt; end = λ e. absurd (cc) }

nothing_here : (r : Placed) (at : ℕ) (c : Member) → r.points ≡ [] → member_here r at ≡ Some c → ⊥
nothing_here r at c e h =
    let owner : ℕ × ℕ → Option Member = λ p. member_at r.members r.owners p.1 in
    let P : List (ℕ × ℕ) → Type 0 = λ ps. option_and_then owner (slice_get ps (index_here r at)) ≡ Some c in
    let wrong : None ≡ Some c = subst P e h in absurd (cc)

no_candidates : (r : Placed) (at : ℕ) (cs : List Member) → r.points ≡ [] → YieldsFrom r at cs → cs ≡ []
no_candidates r at [] e y = refl
no_candidates r at (c ∷ cs) e y = absurd (nothing_here r at c e y.0)

-- where a walk has ended there is nothing more
pub walk_ends :
    (r : Placed) (at : ℕ) (ds : List Draw) (cs : List Member) (e : Bool)
    → IsWalkFrom r at [] [] true → IsWalkFrom r at ds cs e → (ds ≡ []) × (cs ≡ [])
walk_ends r at ds cs e w v = (v.undrawn, no_candidates r at cs (w.end refl) v.candidates)

none_random : (ds : List Draw) → ds ≡ [] → Each IsNotRandom ds
none_random [] e = tt
none_random (d ∷ ds) e = absurd (cc)

no_words : (ds : List Draw) (n : ℕ) → ds ≡ [] → words_in ds ≤ max 1 n
no_words [] n e = omega arith
no_words (d ∷ ds) n e = absurd (cc)

-- no walk draws random words, and none draws more words than it gives candidates
pub walk_undrawn :
    (ms : List Member) (key : List ℕ) (ds : List Draw) (cs : List Member) (e : Bool) → IsRingWalk ms key ds cs e → Each IsNotRandom ds
walk_undrawn ms key ds cs e w = none_random ds w.undrawn

pub walk_few_words :
    (ms : List Member) (key : List ℕ) (ds : List Draw) (cs : List Member) (e : Bool)
    → IsRingWalk ms key ds cs e → words_in ds ≤ max 1 (length cs)
walk_few_words ms key ds cs e w = no_words ds (length cs) w.undrawn
