-- Turns of a unique walk, one after another: what was gone past so far, and what the last turn leaves.
use Rattle.std.specs.Prelude.{◌≡◌, ℕ, ◌+◌, ◌≤◌, Bool, true, false, List, [], ◌∷◌, ◌++◌, length, take, Some, None, Ok, refl}
use Rattle.std.proofs.Common.{sym, ap, ◌∙◌, append_assoc, arith, inl, inr, length-append, subst}
use Rattle.std.proofs.lemmas.List.{append-nil, take_all, take-append-le}
use Rattle.lb_select_base.specs.declared.unique.UniqueIterator.{UniqueIterator}
use Rattle.lb_select_base.specs.Backends.{Member, same_member}
use Rattle.lb_select_base.specs.Draws.{Draw, Gives}
use Rattle.lb_select_base.specs.Selections.{IsWalked}
use Rattle.lb_select_base.specs.Unique.{distinct, IsTurn}
use Rattle.lb_select_base.specs.UniqueLaws.{AreSeen}
use Rattle.lb_select_base.proofs.SelectionLaws.{turns_are_distinct}
use Rattle.lb_select_base.proofs.Turns.{Gives-append, Continues-closed}
use Rattle.lb_select.specs.UniqueWalks.{AreAllDistinct, Finds, TurnsAreOneWalk}

module _ {I S : Type 0} (gives : S → Draw → S → Type 0) (walk : I → List Draw → List Member → Bool → Type 0)
    (whole : List Draw → List Member → Bool → Type 0) (limit : ℕ) (r : S) where
  -- these were found so far, in the candidates of one walk
  record Going (found : List Member) (v : UniqueIterator I) (w : S) : Type 0 where
    pub draws : List Draw
    pub passed : List Member
    pub drawn : Gives gives r draws w
    pub goes : (es : List Draw) (cs : List Member) (e : Bool) → walk v.iter es cs e → whole (draws ++ es) (passed ++ cs) e
    pub counted : v.steps ≡ length passed
    pub limit_is : v.max_iterations ≡ limit
    pub within : v.steps ≤ limit
    pub seen : AreSeen v.seen passed
    pub found_is : found ≡ distinct same_member passed

  -- one more was found
  going_more : (found : List Member) (v n : UniqueIterator I) (w t : S) (b : Member) → Going found v w
      → IsTurn gives walk v w (Ok (Some b)) n t → Going (found ++ b ∷ []) n t
  going_more found v n w t b p turn =
      let more = turns_are_distinct gives walk v n w t (Ok (Some b)) turn p.passed p.seen in
      let long : length (p.passed ++ turn.passed) ≡ length p.passed + length turn.passed = length-append p.passed turn.passed in
      record {
        draws = p.draws ++ turn.draws;
        passed = p.passed ++ turn.passed;
        drawn = Gives-append gives r w t p.draws turn.draws p.drawn turn.drawn;
        goes = λ es cs e h. rw (append_assoc p.draws turn.draws es, append_assoc p.passed turn.passed cs)
            (p.goes (turn.draws ++ es) (turn.passed ++ cs) e (turn.gave.0 es cs e h));
        counted = omega (arith, turn.counted, p.counted, long);
        limit_is = turn.limit ∙ p.limit_is;
        within = omega (arith, turn.within, p.within, p.limit_is);
        seen = more.0;
        found_is = ap (λ xs. xs ++ b ∷ []) p.found_is ∙ sym more.1;
      }

  -- what a walk comes to
  abbrev Whole : List Member → S → Type 0
  Whole found t = (cs : List Member) × (ended : Bool) × IsWalked gives whole r t cs ended × AreAllDistinct limit cs ended found

  module _ (starts : (j : I) → walk j [] [] false) where
    -- no more are found
    going_over : (found : List Member) (v n : UniqueIterator I) (w t : S) → Going found v w → IsTurn gives walk v w (Ok None) n t
        → Whole found t
    going_over found v n w t p turn =
        let none = turns_are_distinct gives walk v n w t (Ok None) turn p.passed p.seen in
        let xs = p.passed ++ turn.passed in
        let long : length xs ≡ length p.passed + length turn.passed = length-append p.passed turn.passed in
        let few : length xs ≤ limit = omega (arith, turn.counted, p.counted, long, turn.within, p.within, p.limit_is) in
        let all : found ≡ distinct same_member xs = p.found_is ∙ sym none.1 in
        let drawn = Gives-append gives r w t p.draws turn.draws p.drawn turn.drawn in
        elim turn.gave.2 [
          | inl over ↦ (
            xs,
            true,
            record { draws = p.draws ++ turn.draws; drawn = drawn; walked = p.goes turn.draws turn.passed true over.0 },
            record { distinct_of_first = all ∙ ap (distinct same_member) (sym (take_all limit xs few)); no_more = inr (refl, few) },
          )
          | inr past ↦ (
              let b = past.1.0 in
              let closed = Continues-closed walk v.iter n.iter turn.draws (turn.passed ++ b ∷ []) false past.1.1 (starts n.iter) in
              let full : limit ≤ length xs = omega (arith, past.0, turn.counted, p.counted, long, p.limit_is) in
              let parts : xs ++ b ∷ [] ≡ p.passed ++ (turn.passed ++ b ∷ []) = append_assoc p.passed turn.passed (b ∷ []) in
              let first : take limit (xs ++ b ∷ []) ≡ xs = take-append-le limit xs (b ∷ []) full ∙ take_all limit xs few in
              let one_more : length (xs ++ b ∷ []) ≡ length xs + 1 = length-append xs (b ∷ []) in (
                xs ++ b ∷ [],
                false,
                record {
                  draws = p.draws ++ turn.draws;
                  drawn = drawn;
                  walked = rw parts (p.goes turn.draws (turn.passed ++ b ∷ []) false closed);
                },
                record {
                  distinct_of_first = all ∙ ap (distinct same_member) (sym first);
                  no_more = inl (omega (arith, one_more, few, full));
                },
              )
              )
        ]

    -- turns to the end
    going_on : (found rest : List Member) (v n : UniqueIterator I) (w t : S) → Going found v w → Finds gives walk v w rest n t
        → Whole (found ++ rest) t
    going_on found [] v n w t p turn =
        let P : List Member → Type 0 = λ xs. Whole xs t in subst P (sym (append-nil found)) (going_over found v n w t p turn)
    going_on found (b ∷ bs) v n w t p (u, s, turn, later) =
        let P : List Member → Type 0 = λ xs. Whole xs t in
        subst P (append_assoc found (b ∷ []) bs) (going_on (found ++ b ∷ []) bs u n s t (going_more found v u w s b p turn) later)

module _ {I S : Type 0} (gives : S → Draw → S → Type 0) (walk : I → List Draw → List Member → Bool → Type 0)
    (starts : (j : I) → walk j [] [] false) (whole : List Draw → List Member → Bool → Type 0) where
  pub turns_are_one_walk : TurnsAreOneWalk gives walk whole
  turns_are_one_walk u n r s t found begun unused finds =
      going_on gives walk whole u.max_iterations r starts [] found u n s t
      (record {
        draws = begun.0;
        passed = [];
        drawn = begun.1;
        goes = begun.2;
        counted = unused.steps;
        limit_is = refl;
        within = omega (arith, unused.steps);
        seen = unused.seen;
        found_is = refl;
      })
      finds
