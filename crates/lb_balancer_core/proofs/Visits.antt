-- A selection by a port on its way: the calls for the reader, the candidates that were looked at, and what each end answers.
use Rattle.std.specs.Prelude.{◌≡◌, ℕ, ◌+◌, ◌<◌, ◌≤◌, Bool, true, false, ◌||◌, List, [], ◌∷◌, ◌++◌, length, map, Option, Some, None, Result}
use Rattle.std.specs.Prelude.{Ok, Err, refl}
use Rattle.std.specs.Borrow.{Bor}
use Rattle.std.proofs.Common.{sym, ap, ◌∙◌, arith, inl, inr, length-append, subst}
use mathlib.Core.List.{map-append}
use Rattle.std.specs.List.{AllByRecursion as Each}
use Rattle.std.specs.Result.{IsErrAnd}
use Rattle.std.proofs.lemmas.List.{take_all, take_at}
use Rattle.lb_select_base.specs.declared.refusal.Refusal.{Refusal}
use Rattle.lb_select_base.specs.declared.refusal.Refusal.TheVariants.{OutOfMemory}
use Rattle.lb_select_base.specs.declared.seen.SeenBackends.{SeenBackends}
use Rattle.lb_select_base.specs.Backends.{Member, same_member}
use Rattle.lb_select_base.specs.Draws.{Draw, Gives}
use Rattle.lb_select_base.specs.Walks.{Continues, IsStep, Begins}
use Rattle.lb_select_base.specs.Unique.{distinct, has_backend}
use Rattle.lb_select_base.specs.Copies.{AsCopied}
use Rattle.lb_select_base.specs.UniqueLaws.{AreSeen}
use Rattle.lb_select_base.proofs.Lists.{append-nil, Each-push, distinct-new}
use Rattle.lb_select_base.proofs.Turns.{Continues-append, Continues-closed, seen_repeats, seen_new}
use Rattle.lb_balancer_core.specs.Looks.{Look, drew, told, draws_of, told_of, Looks, SelectsBy}

-- calls after calls
draws-append : (ls ms : List Look) → draws_of (ls ++ ms) ≡ draws_of ls ++ draws_of ms
draws-append [] ms = refl
draws-append (drew d ∷ ls) ms = ap (λ xs. d ∷ xs) (draws-append ls ms)
draws-append (told b a ∷ ls) ms = draws-append ls ms

told-append : (ls ms : List Look) → told_of (ls ++ ms) ≡ told_of ls ++ told_of ms
told-append [] ms = refl
told-append (drew d ∷ ls) ms = told-append ls ms
told-append (told b a ∷ ls) ms = ap (λ xs. (b, a) ∷ xs) (told-append ls ms)

-- draws alone, and draws before one backend that is asked for
abbrev drawn : List Draw → List Look
drawn ds = map (λ d. drew d) ds

draws-drawn : (ds : List Draw) (ms : List Look) → draws_of (drawn ds ++ ms) ≡ ds ++ draws_of ms
draws-drawn [] ms = refl
draws-drawn (d ∷ ds) ms = ap (λ xs. d ∷ xs) (draws-drawn ds ms)

told-drawn : (ds : List Draw) (ms : List Look) → told_of (drawn ds ++ ms) ≡ told_of ms
told-drawn [] ms = refl
told-drawn (d ∷ ds) ms = told-drawn ds ms

module _ {P R : Type 0} (draws : P → R → Draw → P → Type 0) (readies : P → R → Member → Bool → P → Type 0) (r : R) where
  looks-append : (p m q : P) (ls ms : List Look) → Looks draws readies r p ls m → Looks draws readies r m ms q
      → Looks draws readies r p (ls ++ ms) q
  looks-append p m q [] ms first later = let T : P → Type 0 = λ x. Looks draws readies r x ms q in subst T (sym first) later
  looks-append p m q (drew d ∷ ls) ms first later = (first.0, first.1, looks-append first.0 m q ls ms first.2 later)
  looks-append p m q (told b a ∷ ls) ms first later = (first.0, first.1, looks-append first.0 m q ls ms first.2 later)

  -- what its calls keep is kept
  pub looks_keep : (owns : P → Type 0) → ((p : P) (d : Draw) (q : P) → draws p r d q → owns p → owns q)
      → ((p : P) (b : Member) (a : Bool) (q : P) → readies p r b a q → owns p → owns q)
      → (p q : P) (ls : List Look) → Looks draws readies r p ls q → owns p → owns q
  looks_keep owns draw ready p q [] is own = subst owns is own
  looks_keep owns draw ready p q (drew d ∷ ls) is own = looks_keep owns draw ready is.0 q ls is.2 (draw p d is.0 is.1 own)
  looks_keep owns draw ready p q (told b a ∷ ls) is own = looks_keep owns draw ready is.0 q ls is.2 (ready p b a is.0 is.1 own)

-- a selection keeps what its calls keep
pub selects_keep : {P R : Type 0} (draws : P → R → Draw → P → Type 0) (readies : P → R → Member → Bool → P → Type 0)
    (accepts : Member → Bool → Bool → Type 0) (limit : ℕ) (walks : List Draw → List Member → Bool → Type 0) (owns : P → R → Type 0)
    → ((x : P) (o : R) (d : Draw) (y : P) → draws x o d y → owns x o → owns y o)
    → ((x : P) (o : R) (b : Member) (a : Bool) (y : P) → readies x o b a y → owns x o → owns y o)
    → (p q : P) (r : R) (answer : Result (Option Member) Refusal) → SelectsBy accepts limit draws readies walks p r answer q → owns p r
    → owns q r
selects_keep draws readies accepts limit walks owns draw ready p q r (Ok o) is own =
    looks_keep draws readies r (λ x. owns x r) (λ x d y. draw x r d y) (λ x b a y. ready x r b a y) p q is.0 is.1 own
selects_keep draws readies accepts limit walks owns draw ready p q r (Err e) (memory, inl same) own = subst (λ x. owns x r) (sym same) own
selects_keep draws readies accepts limit walks owns draw ready p q r (Err e) (memory, inr more) own =
    looks_keep draws readies r (λ x. owns x r) (λ x d y. draw x r d y) (λ x b a y. ready x r b a y) p q more.0 more.1 own

-- a source of words that has the port, its reader, and the place of the port
module _ {W P R N : Type 0} (port_of : W → P) (reader_of : W → R) (name_of : W → N)
    (draws : P → R → Draw → P → Type 0) (readies : P → R → Member → Bool → P → Type 0) where
  abbrev pub GivesThrough : W → Draw → W → Type 0
  GivesThrough a d b = (reader_of b ≡ reader_of a) × (name_of b ≡ name_of a) × draws (port_of a) (reader_of a) d (port_of b)

  -- the same reader at the same place
  pub record Same (a b : W) : Type 0 where
    pub reader : reader_of b ≡ reader_of a
    pub name : name_of b ≡ name_of a

  same-after : {a b c : W} → Same a b → Same b c → Same a c
  same-after f g = record { reader = g.reader ∙ f.reader; name = g.name ∙ f.name }

  -- what was drawn of it are calls of the port
  looks-drawn : (r : R) (a b : W) (ds : List Draw) → reader_of a ≡ r → Gives GivesThrough a ds b
      → Looks draws readies r (port_of a) (drawn ds) (port_of b) × Same a b
  looks-drawn r a b [] is same = (ap port_of same, record { reader = ap reader_of (sym same); name = ap name_of (sym same) })
  looks-drawn r a b (d ∷ ds) is (u, g, rest) =
      let more = looks-drawn r u b ds (g.0 ∙ is) rest in
      let first : draws (port_of a) r d (port_of u) = subst (λ (x : R). draws (port_of a) x d (port_of u)) is g.2 in
      ((port_of u, first, more.0), same-after (record { reader = g.0; name = g.1 }) more.1)

  module _ {I : Type 0} (walk : I → List Draw → List Member → Bool → Type 0) (accepts : Member → Bool → Bool → Type 0) where
    -- from i and s to j and t, so many candidates: each distinct one was asked for and refused, and is seen
    pub record Visited (i : I) (s : W) (seen : SeenBackends) (j : I) (t : W) (steps : ℕ) : Type 0 where
      pub looks : List Look
      pub searched : List Member
      pub looked : Looks draws readies (reader_of s) (port_of s) looks (port_of t)
      pub goes : Continues walk i (draws_of looks) searched j
      pub counted : length searched ≡ steps
      pub known : AreSeen seen searched
      pub asked : map (λ x. x.0) (told_of looks) ≡ distinct same_member searched
      pub rejects : Each (λ x. accepts x.0 x.1 false) (told_of looks)
      pub same : Same s t

    -- it begins so
    pub visited_none : (i : I) (s : W) (seen : SeenBackends) → ((q : Member) → has_backend seen q ≡ false) → Visited i s seen i s 0
    visited_none i s seen none = record {
      looks = [];
      searched = [];
      looked = refl;
      goes = λ es cs e h. h;
      counted = refl;
      known = none;
      asked = refl;
      rejects = tt;
      same = record { reader = refl; name = refl };
    }

    -- the calls so far, then the draws of a step, then these calls
    module _ {i : I} {s : W} {seen : SeenBackends} {j : I} {t : W} {steps : ℕ} (p : Visited i s seen j t steps) where
      abbrev with_step : List Draw → List Look → List Look
      with_step ds ms = p.looks ++ (drawn ds ++ ms)

      draws-step : (ds : List Draw) (ms : List Look) → draws_of ms ≡ [] → draws_of (with_step ds ms) ≡ draws_of p.looks ++ ds
      draws-step ds ms none =
          draws-append p.looks (drawn ds ++ ms)
          ∙ ap (λ xs. draws_of p.looks ++ xs) (draws-drawn ds ms ∙ ap (λ xs. ds ++ xs) none ∙ append-nil ds)

      told-step : (ds : List Draw) (ms : List Look) → told_of (with_step ds ms) ≡ told_of p.looks ++ told_of ms
      told-step ds ms = told-append p.looks (drawn ds ++ ms) ∙ ap (λ xs. told_of p.looks ++ xs) (told-drawn ds ms)

      looked-step : (ds : List Draw) (v : W) (ms : List Look) (q : P) → Gives GivesThrough t ds v
          → Looks draws readies (reader_of s) (port_of v) ms q → Looks draws readies (reader_of s) (port_of s) (with_step ds ms) q
      looked-step ds v ms q gives later =
          looks-append draws readies (reader_of s) (port_of s) (port_of t) q p.looks (drawn ds ++ ms) p.looked
          (looks-append draws readies (reader_of s) (port_of t) (port_of v) q (drawn ds) ms
          (looks-drawn (reader_of s) t v ds p.same.reader gives).0 later)

      same-step : (ds : List Draw) (v : W) → Gives GivesThrough t ds v → Same s v
      same-step ds v gives = same-after p.same (looks-drawn (reader_of s) t v ds p.same.reader gives).1

      goes-step : (ds : List Draw) (bs : List Member) (n : I) (ms : List Look) → draws_of ms ≡ [] → Continues walk j ds bs n
          → Continues walk i (draws_of (with_step ds ms)) (p.searched ++ bs) n
      goes-step ds bs n ms none step =
          let T : List Draw → Type 0 = λ xs. Continues walk i xs (p.searched ++ bs) n in
          subst T (sym (draws-step ds ms none)) (Continues-append walk i j n (draws_of p.looks) ds p.searched bs p.goes step)

      counted-step : (b : Member) → length (p.searched ++ b ∷ []) ≡ steps + 1
      counted-step b = length-append p.searched (b ∷ []) ∙ ap (λ k. k + 1) p.counted

      -- and goes on past a repeat
      pub visited_repeat : (b : Member) (n : I) (v : W) → IsStep GivesThrough walk j t (Some b) n v → has_backend seen b ≡ true
          → Visited i s seen n v (steps + 1)
      visited_repeat b n v step old =
          let more = seen_repeats seen seen p.searched (b ∷ []) (λ q. refl) (old, tt) p.known in
          let same_told : told_of (with_step step.0 []) ≡ told_of p.looks = told-step step.0 [] ∙ append-nil (told_of p.looks) in
          record {
            looks = with_step step.0 [];
            searched = p.searched ++ b ∷ [];
            looked = looked-step step.0 v [] (port_of v) step.1 refl;
            goes = goes-step step.0 (b ∷ []) n [] refl step.2;
            counted = counted-step b;
            known = more.0;
            asked = ap (λ xs. map (λ x. x.0) xs) same_told ∙ p.asked ∙ sym more.1;
            rejects = subst (λ (xs : List (Member × Bool)). Each (λ x. accepts x.0 x.1 false) xs) (sym same_told) p.rejects;
            same = same-step step.0 v step.1;
          }

      -- where a new one was asked for, after the step
      module _ (b : Member) (n : I) (v : W) (a : Bool) (q : P) (step : IsStep GivesThrough walk j t (Some b) n v)
          (new : has_backend seen b ≡ false)
          (ready : readies (port_of v) (reader_of v) b a q) where
        abbrev asked_looks : List Look
        asked_looks = with_step step.0 (told b a ∷ [])

        asked_looked : Looks draws readies (reader_of s) (port_of s) asked_looks q
        asked_looked =
            let kept = same-step step.0 v step.1 in
            let here : readies (port_of v) (reader_of s) b a q = subst (λ (x : R). readies (port_of v) x b a q) kept.reader ready in
            looked-step step.0 v (told b a ∷ []) q step.1 (q, here, refl)

        asked_goes : Continues walk i (draws_of asked_looks) (p.searched ++ b ∷ []) n
        asked_goes = goes-step step.0 (b ∷ []) n (told b a ∷ []) refl step.2

        asked_told : told_of asked_looks ≡ told_of p.looks ++ (b, a) ∷ []
        asked_told = told-step step.0 (told b a ∷ [])

        asked_distinct : map (λ x. x.0) (told_of asked_looks) ≡ distinct same_member (p.searched ++ b ∷ [])
        asked_distinct =
            ap (λ xs. map (λ x. x.0) xs) asked_told ∙ map-append (λ x. x.0) (told_of p.looks) ((b, a) ∷ [])
            ∙ ap (λ xs. xs ++ b ∷ []) p.asked ∙ sym (distinct-new same_member p.searched b (sym (p.known b) ∙ new))

        -- and past a new one that is refused
        pub visited_new : (after : SeenBackends) (w : W) → port_of w ≡ q → Same v w → accepts b a false
            → ((m : Member) → has_backend after m ≡ (has_backend seen m || same_member m b)) → Visited i s after n w (steps + 1)
        visited_new after w at still refused remembered =
            let more = seen_new seen after p.searched b remembered new p.known in
            record {
              looks = asked_looks;
              searched = p.searched ++ b ∷ [];
              looked = subst (λ (x : P). Looks draws readies (reader_of s) (port_of s) asked_looks x) (sym at) asked_looked;
              goes = asked_goes;
              counted = counted-step b;
              known = more.0;
              asked = asked_distinct;
              rejects = subst (λ (xs : List (Member × Bool)). Each (λ x. accepts x.0 x.1 false) xs) (sym asked_told)
                  (Each-push (λ x. accepts x.0 x.1 false) (told_of p.looks) (b, a) p.rejects refused);
              same = same-after (same-step step.0 v step.1) still;
            }

    module _ (walks : List Draw → List Member → Bool → Type 0) (limit : ℕ) (starts : (j : I) → walk j [] [] false) where
      -- a walk with what was drawn before its first candidate
      record Whole (s₀ : W) (q : P) (ls : List Look) (cs : List Member) (e : Bool) : Type 0 where
        pub looks : List Look
        pub looked : Looks draws readies (reader_of s₀) (port_of s₀) looks q
        pub walked : walks (draws_of looks) cs e
        pub told : told_of looks ≡ told_of ls

      begun : {s₀ s : W} (i : I) (q : P) (ls : List Look) (cs : List Member) (e : Bool)
          → Begins GivesThrough walk walks s₀ (Ok i) s → Looks draws readies (reader_of s) (port_of s) ls q
          → walk i (draws_of ls) cs e → Whole s₀ q ls cs e
      begun {s₀} {s} i q ls cs e begins looked w =
          let first = looks-drawn (reader_of s₀) s₀ s begins.0 refl begins.1 in
          let later : Looks draws readies (reader_of s₀) (port_of s) ls q =
          subst (λ (x : R). Looks draws readies x (port_of s) ls q) first.1.reader looked in
          record {
            looks = drawn begins.0 ++ ls;
            looked = looks-append draws readies (reader_of s₀) (port_of s₀) (port_of s) q (drawn begins.0) ls first.0 later;
            walked = subst (λ (xs : List Draw). walks xs cs e) (sym (draws-drawn begins.0 ls)) (begins.2 (draws_of ls) cs e w);
            told = told-drawn begins.0 ls;
          }

      same_begun : {s₀ s : W} (i : I) → Begins GivesThrough walk walks s₀ (Ok i) s → Same s₀ s
      same_begun {s₀} {s} i begins = (looks-drawn (reader_of s₀) s₀ s begins.0 refl begins.1).1

      abbrev pub accepted : (s₀ : W) → Result (Option Member) Refusal → P → Type 0
      accepted s₀ r q = SelectsBy accepts limit draws readies walks (port_of s₀) (reader_of s₀) r q

      module _ {s₀ s : W} {i : I} {seen : SeenBackends} {j : I} {t : W} {steps : ℕ} (begins : Begins GivesThrough walk walks s₀ (Ok i) s)
          (p : Visited i s seen j t steps) where
        -- none is answered where the walk ended within the limit
        pub visit_ends : (n : I) (v : W) → IsStep GivesThrough walk j t None n v → steps ≤ limit → accepted s₀ (Ok None) (port_of v)
        visit_ends n v step room =
            let cs = p.searched in
            let counted : length cs ≡ steps = p.counted in
            let few : length cs ≤ limit = omega arith in
            let ended : walk i (draws_of p.looks ++ step.0) cs true = rw append-nil at (p.goes step.0 [] true step.2.0) in
            let w : walk i (draws_of (with_step p step.0 [])) cs true =
            subst (λ (xs : List Draw). walk i xs cs true) (sym (draws-step p step.0 [] refl)) ended in
            let whole = begun i (port_of v) (with_step p step.0 []) cs true begins (looked-step p step.0 v [] (port_of v) step.1 refl) w in
            let here : told_of whole.looks ≡ told_of p.looks = whole.told ∙ told-step p step.0 [] ∙ append-nil (told_of p.looks) in (
              whole.looks,
              whole.looked,
              cs,
              true,
              whole.walked,
              (
                ap (λ xs. map (λ x. x.0) xs) here ∙ p.asked ∙ ap (λ xs. distinct same_member xs) (sym (take_all limit cs few)),
                subst (λ (xs : List (Member × Bool)). Each (λ x. accepts x.0 x.1 false) xs) (sym here) p.rejects,
                inr (refl, few),
              ),
            )

        -- or where the limit was met, and one more was drawn
        pub visit_limit : (r : Option Member) (n : I) (v : W) → IsStep GivesThrough walk j t r n v → steps ≡ limit
            → accepted s₀ (Ok None) (port_of v)
        visit_limit None n v step full = visit_ends n v step (omega (arith, full))
        visit_limit (Some b) n v step full =
            let cs = p.searched ++ b ∷ [] in
            let exact : length p.searched ≡ limit = p.counted ∙ full in
            let long : length cs ≡ length p.searched + 1 = length-append p.searched (b ∷ []) in
            let w : walk i (draws_of (with_step p step.0 [])) cs false =
            Continues-closed walk i n (draws_of (with_step p step.0 [])) cs false (goes-step p step.0 (b ∷ []) n [] refl step.2)
            (starts n) in
            let whole = begun i (port_of v) (with_step p step.0 []) cs false begins (looked-step p step.0 v [] (port_of v) step.1 refl) w in
            let here : told_of whole.looks ≡ told_of p.looks = whole.told ∙ told-step p step.0 [] ∙ append-nil (told_of p.looks) in (
              whole.looks,
              whole.looked,
              cs,
              false,
              whole.walked,
              (
                ap (λ xs. map (λ x. x.0) xs) here ∙ p.asked
                    ∙ ap (λ xs. distinct same_member xs) (sym (take_at p.searched (b ∷ []) limit exact)),
                subst (λ (xs : List (Member × Bool)). Each (λ x. accepts x.0 x.1 false) xs) (sym here) p.rejects,
                inl (long ∙ ap (λ k. k + 1) exact),
              ),
            )

        module _ (b : Member) (n : I) (v : W) (a : Bool) (q : P) (step : IsStep GivesThrough walk j t (Some b) n v)
            (new : has_backend seen b ≡ false)
            (ready : readies (port_of v) (reader_of v) b a q) (room : steps < limit) where
          asked_whole : Whole s₀ q (asked_looks p b n v a q step new ready) (p.searched ++ b ∷ []) false
          asked_whole =
              begun i q (asked_looks p b n v a q step new ready) (p.searched ++ b ∷ []) false begins
              (asked_looked p b n v a q step new ready)
              (Continues-closed walk i n (draws_of (asked_looks p b n v a q step new ready)) (p.searched ++ b ∷ []) false
              (asked_goes p b n v a q step new ready) (starts n))

          asked_few : length (p.searched ++ b ∷ []) ≤ limit
          asked_few = let long : length (p.searched ++ b ∷ []) ≡ steps + 1 = counted-step p b in omega (arith, long)

          asked_firsts : map (λ x. x.0) (told_of asked_whole.looks) ≡ distinct same_member (p.searched ++ b ∷ [])
          asked_firsts = ap (λ xs. map (λ x. x.0) xs) asked_whole.told ∙ asked_distinct p b n v a q step new ready

          -- the first that is accepted is answered
          pub visit_finds : accepts b a true → accepted s₀ (Ok (Some b)) q
          visit_finds taken =
              let whole = asked_whole in (
                whole.looks,
                whole.looked,
                p.searched ++ b ∷ [],
                false,
                whole.walked,
                (
                  p.searched,
                  refl,
                  asked_few,
                  told_of p.looks,
                  a,
                  whole.told ∙ asked_told p b n v a q step new ready,
                  asked_firsts,
                  p.rejects,
                  taken,
                ),
              )

          -- where there is no memory at a new candidate, the selection is refused
          pub visit_refused : (r : Result (Option Member) Refusal) → IsErrAnd r (λ e. e ≡ OutOfMemory) → accepted s₀ r q
          visit_refused (Ok o) refused = absurd refused
          visit_refused (Err e) refused =
              let whole = asked_whole
              in (refused, inr (whole.looks, whole.looked, p.searched ++ b ∷ [], whole.walked, asked_few, asked_firsts))

          pub visit_refuses : (r : Result (Option (Bor Member)) Refusal) → IsErrAnd r (λ e. e ≡ OutOfMemory)
              → AsCopied (λ a. accepted s₀ a q) r
          visit_refuses (Ok o) refused = absurd refused
          visit_refuses (Err e) refused = visit_refused (Err e) refused

        -- the reader and the place of the port are those of the beginning
        module _ (r : Option Member) (n : I) (v : W) (step : IsStep GivesThrough walk j t r n v) where
          visit_same : Same s₀ v
          visit_same = same-after (same_begun i begins) (same-step p step.0 v step.1)

          pub visit_named : name_of v ≡ name_of s₀
          visit_named = visit_same.name

          -- and what the calls keep is kept
          pub visit_owned : (owns : P → R → Type 0) → ((x : P) (o : R) (d : Draw) (y : P) → draws x o d y → owns x o → owns y o)
              → ((x : P) (o : R) (b : Member) (a : Bool) (y : P) → readies x o b a y → owns x o → owns y o)
              → owns (port_of s₀) (reader_of s₀) → owns (port_of v) (reader_of v)
          visit_owned owns draw ready own =
              let first = looks-drawn (reader_of s₀) s₀ s begins.0 refl begins.1 in
              let later : Looks draws readies (reader_of s₀) (port_of s) (with_step p step.0 []) (port_of v) =
              subst (λ (x : R). Looks draws readies x (port_of s) (with_step p step.0 []) (port_of v)) first.1.reader
              (looked-step p step.0 v [] (port_of v) step.1 refl) in
              let all = looks-append draws readies (reader_of s₀) (port_of s₀) (port_of s) (port_of v) (drawn begins.0)
              (with_step p step.0 []) first.0 later in
              subst (λ (x : R). owns (port_of v) x) (sym visit_same.reader)
              (looks_keep draws readies (reader_of s₀) (λ x. owns x (reader_of s₀)) (λ x d y. draw x (reader_of s₀) d y)
              (λ x b a y. ready x (reader_of s₀) b a y)
              (port_of s₀) (port_of v) (drawn begins.0 ++ with_step p step.0 []) all own)
