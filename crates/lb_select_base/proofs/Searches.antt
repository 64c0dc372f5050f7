-- A selection on its way: the candidates that were looked at and refused, and what each end of the search answers.
use Rattle.std.specs.Prelude.{◌≡◌, ℕ, ◌+◌, ◌<◌, ◌≤◌, Bool, true, false, ◌||◌, List, [], ◌∷◌, ◌++◌, length, Option, Some, None, Result, Ok}
use Rattle.std.specs.Prelude.{Err, refl}
use Rattle.std.proofs.Common.{sym, ap, ◌∙◌, arith, inl, inr, length-append}
use Rattle.std.specs.Borrow.{Bor}
use Rattle.std.specs.List.{AllByRecursion as Each}
use Rattle.std.specs.Result.{IsErrAnd}
use Rattle.std.proofs.lemmas.List.{take_all, take_at}
use Rattle.lb_select_base.specs.declared.refusal.Refusal.{Refusal}
use Rattle.lb_select_base.specs.declared.refusal.Refusal.TheVariants.{OutOfMemory}
use Rattle.lb_select_base.specs.declared.seen.SeenBackends.{SeenBackends}
use Rattle.lb_select_base.specs.Backends.{Member, same_member}
use Rattle.lb_select_base.specs.Draws.{Draw, Gives}
use Rattle.lb_select_base.specs.Walks.{Continues, IsStep, Begins}
use Rattle.lb_select_base.specs.Unique.{distinct, has_backend}
use Rattle.lb_select_base.specs.UniqueLaws.{AreSeen}
use Rattle.lb_select_base.specs.Copies.{AsCopied}
use Rattle.lb_select_base.specs.Selections.{IsWalked, Selects}
use Rattle.lb_select_base.proofs.Lists.{append-nil, Each-push, distinct-new}
use Rattle.lb_select_base.proofs.Turns.{Gives-append, Continues-append, Continues-closed, seen_repeats, seen_new}

module _ {I S : Type 0} (gives : S → Draw → S → Type 0) (walk : I → List Draw → List Member → Bool → Type 0)
    (accepts : Member → Bool → Type 0) where
  -- from i and s to j and t, so many candidates: all distinct ones among them were refused, and are seen
  pub record Searched (i : I) (s : S) (seen : SeenBackends) (j : I) (t : S) (steps : ℕ) : Type 0 where
    pub draws : List Draw
    pub searched : List Member
    pub drawn : Gives gives s draws t
    pub goes : Continues walk i draws searched j
    pub counted : length searched ≡ steps
    pub known : AreSeen seen searched
    pub rejects : Each (λ x. accepts x false) (distinct same_member searched)

  -- it begins so
  pub searched_none : (i : I) (s : S) (seen : SeenBackends) → ((q : Member) → has_backend seen q ≡ false) → Searched i s seen i s 0
  searched_none i s seen none = record {
    draws = [];
    searched = [];
    drawn = refl;
    goes = λ es cs e h. h;
    counted = refl;
    known = none;
    rejects = tt;
  }

  -- and goes on past a repeat
  pub searched_repeat : {i : I} {s : S} {seen : SeenBackends} {j : I} {t : S} {steps : ℕ} (b : Member) (n : I) (v : S)
      → Searched i s seen j t steps → IsStep gives walk j t (Some b) n v → has_backend seen b ≡ true
      → Searched i s seen n v (steps + 1)
  searched_repeat {i} {s} {seen} {j} {t} {steps} b n v p step old =
      let more = seen_repeats seen seen p.searched (b ∷ []) (λ q. refl) (old, tt) p.known in
      record {
        draws = p.draws ++ step.0;
        searched = p.searched ++ b ∷ [];
        drawn = Gives-append gives s t v p.draws step.0 p.drawn step.1;
        goes = Continues-append walk i j n p.draws step.0 p.searched (b ∷ []) p.goes step.2;
        counted = length-append p.searched (b ∷ []) ∙ ap (λ k. k + 1) p.counted;
        known = more.0;
        rejects = rw more.1 p.rejects;
      }

  -- and past a new one that is refused
  pub searched_new : {i : I} {s : S} {seen : SeenBackends} {j : I} {t : S} {steps : ℕ} (b : Member) (after : SeenBackends) (n : I) (v : S)
      → Searched i s seen j t steps → IsStep gives walk j t (Some b) n v → has_backend seen b ≡ false → accepts b false
      → ((q : Member) → has_backend after q ≡ (has_backend seen q || same_member q b))
      → Searched i s after n v (steps + 1)
  searched_new {i} {s} {seen} {j} {t} {steps} b after n v p step new refused remembered =
      let more = seen_new seen after p.searched b remembered new p.known in
      record {
        draws = p.draws ++ step.0;
        searched = p.searched ++ b ∷ [];
        drawn = Gives-append gives s t v p.draws step.0 p.drawn step.1;
        goes = Continues-append walk i j n p.draws step.0 p.searched (b ∷ []) p.goes step.2;
        counted = length-append p.searched (b ∷ []) ∙ ap (λ k. k + 1) p.counted;
        known = more.0;
        rejects = rw more.1 (Each-push (λ x. accepts x false) (distinct same_member p.searched) b p.rejects refused);
      }

  module _ (walks : List Draw → List Member → Bool → Type 0) (limit : ℕ) (starts : (j : I) → walk j [] [] false) where
    -- a walk with what was drawn before its first candidate
    begun : {s₀ s : S} (i : I) (t : S) (ds : List Draw) (cs : List Member) (e : Bool)
        → Begins gives walk walks s₀ (Ok i) s → Gives gives s ds t → walk i ds cs e → IsWalked gives walks s₀ t cs e
    begun {s₀} {s} i t ds cs e begins drawn w = record {
      draws = begins.0 ++ ds;
      drawn = Gives-append gives s₀ s t begins.0 ds begins.1 drawn;
      walked = begins.2 ds cs e w;
    }

    -- and with one more candidate
    one_more : {s₀ s : S} {i : I} {seen : SeenBackends} {j : I} {t : S} {steps : ℕ} (b : Member) (n : I) (v : S)
        → Begins gives walk walks s₀ (Ok i) s → (p : Searched i s seen j t steps) → IsStep gives walk j t (Some b) n v
        → IsWalked gives walks s₀ v (p.searched ++ b ∷ []) false
    one_more {s₀} {s} {i} {seen} {j} {t} b n v begins p step =
        let goes = Continues-append walk i j n p.draws step.0 p.searched (b ∷ []) p.goes step.2 in
        let w = Continues-closed walk i n (p.draws ++ step.0) (p.searched ++ b ∷ []) false goes (starts n) in
        begun i v (p.draws ++ step.0) (p.searched ++ b ∷ []) false begins (Gives-append gives s t v p.draws step.0 p.drawn step.1) w

    -- the first that is accepted is answered
    pub finds : {s₀ s : S} {i : I} {seen : SeenBackends} {j : I} {t : S} {steps : ℕ} (b : Member) (n : I) (v : S)
        → Begins gives walk walks s₀ (Ok i) s → Searched i s seen j t steps → IsStep gives walk j t (Some b) n v
        → has_backend seen b ≡ false → accepts b true → steps < limit
        → Selects same_member accepts limit gives walks s₀ (Ok (Some b)) v
    finds {s₀} {s} {i} {seen} {j} {t} {steps} b n v begins p step new accepted room =
        let cs = p.searched ++ b ∷ [] in
        let counted : length p.searched ≡ steps = p.counted in
        let long : length cs ≡ length p.searched + 1 = length-append p.searched (b ∷ []) in (
          cs,
          false,
          one_more b n v begins p step,
          (
            p.searched,
            refl,
            omega arith,
            distinct-new same_member p.searched b (sym (p.known b) ∙ new),
            p.rejects,
            accepted,
          ),
        )

    -- none is answered where the walk ended within the limit
    pub ends : {s₀ s : S} {i : I} {seen : SeenBackends} {j : I} {t : S} {steps : ℕ} (n : I) (v : S)
        → Begins gives walk walks s₀ (Ok i) s → Searched i s seen j t steps → IsStep gives walk j t None n v → steps ≤ limit
        → Selects same_member accepts limit gives walks s₀ (Ok None) v
    ends {s₀} {s} {i} {seen} {j} {t} {steps} n v begins p step room =
        let cs = p.searched in
        let counted : length cs ≡ steps = p.counted in
        let few : length cs ≤ limit = omega arith in
        let w : walk i (p.draws ++ step.0) cs true = rw append-nil at (p.goes step.0 [] true step.2.0) in (
          cs,
          true,
          begun i v (p.draws ++ step.0) cs true begins (Gives-append gives s t v p.draws step.0 p.drawn step.1) w,
          (rw (take_all limit cs few) p.rejects, inr (refl, few)),
        )

    -- or where the limit was met, and one more was drawn
    pub at_limit : {s₀ s : S} {i : I} {seen : SeenBackends} {j : I} {t : S} {steps : ℕ} (r : Option Member) (n : I) (v : S)
        → Begins gives walk walks s₀ (Ok i) s → Searched i s seen j t steps → IsStep gives walk j t r n v → steps ≡ limit
        → Selects same_member accepts limit gives walks s₀ (Ok None) v
    at_limit None n v begins p step full = ends n v begins p step (omega (arith, full))
    at_limit {s₀} {s} {i} {seen} {j} {t} {steps} (Some b) n v begins p step full =
        let cs = p.searched ++ b ∷ [] in
        let exact : length p.searched ≡ limit = p.counted ∙ full in
        let long : length cs ≡ length p.searched + 1 = length-append p.searched (b ∷ []) in (
          cs,
          false,
          one_more b n v begins p step,
          (rw (take_at p.searched (b ∷ []) limit exact) p.rejects, inl (long ∙ ap (λ k. k + 1) exact)),
        )

    -- where there is no memory at a new candidate, the selection is refused
    pub refused_at : {s₀ s : S} {i : I} {seen : SeenBackends} {j : I} {t : S} {steps : ℕ} (b : Member) (n : I) (v : S)
        → Begins gives walk walks s₀ (Ok i) s → Searched i s seen j t steps → IsStep gives walk j t (Some b) n v
        → has_backend seen b ≡ false → steps < limit → (r : Result (Option Member) Refusal) → IsErrAnd r (λ e. e ≡ OutOfMemory)
        → Selects same_member accepts limit gives walks s₀ r v
    refused_at b n v begins p step new room (Ok o) refused = absurd refused
    refused_at {s₀} {s} {i} {seen} {j} {t} {steps} b n v begins p step new room (Err e) refused =
        let cs = p.searched ++ b ∷ [] in
        let counted : length p.searched ≡ steps = p.counted in
        let long : length cs ≡ length p.searched + 1 = length-append p.searched (b ∷ []) in
        let few : length cs ≤ limit = omega arith in (
          refused,
          inr (
            cs,
            one_more b n v begins p step,
            few,
            (p.searched, b, refl, distinct-new same_member p.searched b (sym (p.known b) ∙ new)),
          ),
        )

    -- and so is what would have been given in place
    pub refuses_at : {s₀ s : S} {i : I} {seen : SeenBackends} {j : I} {t : S} {steps : ℕ} (b : Member) (n : I) (v : S)
        → Begins gives walk walks s₀ (Ok i) s → Searched i s seen j t steps → IsStep gives walk j t (Some b) n v
        → has_backend seen b ≡ false → steps < limit → (r : Result (Option (Bor Member)) Refusal) → IsErrAnd r (λ e. e ≡ OutOfMemory)
        → AsCopied (λ a. Selects same_member accepts limit gives walks s₀ a v) r
    refuses_at b n v begins p step new room (Ok o) refused = absurd refused
    refuses_at b n v begins p step new room (Err e) refused = refused_at b n v begins p step new room (Err e) refused

    -- a walk that could not be begun has drawn nothing
    pub begins_refused : {s₀ s : S} (e : Refusal) → Begins gives walk walks s₀ (Err e) s
        → (r : Result (Option Member) Refusal) → IsErrAnd r (λ y. y ≡ e) → Selects same_member accepts limit gives walks s₀ r s
    begins_refused e begins (Ok o) refused = absurd refused
    begins_refused e begins (Err y) refused = (refused ∙ begins.1, inl begins.0)
