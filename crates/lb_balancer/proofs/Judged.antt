-- A selection in what is shown, and which members are found not ready.
use Rattle.std.specs.Prelude.{IfErr}
use Rattle.std.proofs.Common.{◌≡◌, ◌⊎◌, ◌∷◌, ℕ, Bool, true, false, List, [], take, Option, Some, None, Result, Ok, Err}
use Rattle.std.proofs.Common.{sym, subst, inl, inr}
use Rattle.std.specs.Borrow.{Bor}
use Rattle.std.specs.Fn.{Shared, FnReturns, FnReturnsAt}
use Rattle.std.specs.List.{AllByRecursion as Each}
use Rattle.lb_select_base.specs.Backends.{Member, same_member}
use Rattle.lb_select_base.specs.Draws.{Draw}
use Rattle.lb_select_base.specs.Copies.{AsCopied}
use Rattle.lb_select_base.specs.Selections.{IsAnswer, Selects}
use Rattle.lb_select_base.specs.Unique.{distinct}
use Rattle.lb_select_base.specs.declared.refusal.Refusal.{Refusal}
use Rattle.lb_select_base.specs.declared.refusal.Refusal.TheVariants.{OutOfMemory}
use Rattle.lb_select_base.proofs.Copies.{copies_hold}
use Rattle.lb_rebuild_core.specs.GroupCalls.{AcceptsBy}
use Rattle.lb_balancer.specs.Shown.{SelectsOf}

-- of the words that were drawn it is forgotten where they came from
pub forgot : {S B : Type 0} (same : B → B → Bool) (accepts : B → Bool → Type 0) (limit : ℕ) (gives : S → Draw → S → Type 0)
    (walks : List Draw → List B → Bool → Type 0) (s t : S) (r : Result (Option B) Refusal)
    → Selects same accepts limit gives walks s r t → SelectsOf same accepts limit walks r
forgot same accepts limit gives walks s t (Ok r) (cs, ended, walked, answer) = (walked.draws, cs, ended, walked.walked, answer)
forgot same accepts limit gives walks s t (Err e) refused = refused.0

each_more : {A : Type 0} (P Q : A → Type 0) → ((x : A) → P x → Q x) → (xs : List A) → Each P xs → Each Q xs
each_more P Q more [] all = tt
each_more P Q more (x ∷ xs) all = (more x all.0, each_more P Q more xs all.1)

module _ {B : Type 0} (same : B → B → Bool) (P Q : B → Bool → Type 0) (more : (b : B) (a : Bool) → P b a → Q b a) (limit : ℕ) where
  answer_more : (cs : List B) (ended : Bool) (r : Option B) → IsAnswer same P limit cs ended r → IsAnswer same Q limit cs ended r
  answer_more cs ended (Some b) (before, parts, few, first, refused, accepted) = (
    before,
    parts,
    few,
    first,
    each_more (λ x. P x false) (λ x. Q x false) (λ x. more x false) (distinct same before) refused,
    more b true accepted,
  )
  answer_more cs ended None (refused, over) =
      (each_more (λ x. P x false) (λ x. Q x false) (λ x. more x false) (distinct same (take limit cs)) refused, over)

  -- what one test answered, a test that follows from it answered
  of-more : (walks : List Draw → List B → Bool → Type 0) (r : Result (Option B) Refusal)
      → SelectsOf same P limit walks r → SelectsOf same Q limit walks r
  of-more walks (Ok r) (draws, cs, ended, walked, answer) = (draws, cs, ended, walked, answer_more cs ended r answer)
  of-more walks (Err e) refused = refused

-- what was asked is described by what follows from it
pub asked-more : {F : Type 0} {g : Shared F (Bor Member × Unit {0}) Bool} {f : F} (Q : Member → Bool → Type 0) (limit : ℕ)
    (walks : List Draw → List Member → Bool → Type 0) (r : Result (Option Member) Refusal)
    → SelectsOf same_member (λ b a. FnReturnsAt g f b a) limit walks r → ((b : Member) (a : Bool) → FnReturnsAt g f b a → Q b a)
    → SelectsOf same_member Q limit walks r
asked-more {g = g} {f = f} Q limit walks r is more = of-more same_member (λ b a. FnReturnsAt g f b a) Q more limit walks r is

-- the same of each copy of what was found in place
pub forgot_copies : {S : Type 0} (accepts : Member → Bool → Type 0) (limit : ℕ) (gives : S → Draw → S → Type 0)
    (walks : List Draw → List Member → Bool → Type 0) (s t : S) (found : Result (Option (Bor Member)) Refusal)
    → AsCopied (λ a. Selects same_member accepts limit gives walks s a t) found
    → AsCopied (SelectsOf same_member accepts limit walks) found
forgot_copies accepts limit gives walks s t found is =
    copies_hold (λ a. Selects same_member accepts limit gives walks s a t) (SelectsOf same_member accepts limit walks)
    (forgot same_member accepts limit gives walks s t) found is

pub asked_copies : {F : Type 0} {g : Shared F (Bor Member × Unit {0}) Bool} {f : F} (Q : Member → Bool → Type 0) (limit : ℕ)
    (walks : List Draw → List Member → Bool → Type 0) (found : Result (Option (Bor Member)) Refusal)
    → AsCopied (SelectsOf same_member (λ b a. FnReturnsAt g f b a) limit walks) found
    → ((b : Member) (a : Bool) → FnReturnsAt g f b a → Q b a) → AsCopied (SelectsOf same_member Q limit walks) found
asked_copies {g = g} {f = f} Q limit walks found is more =
    copies_hold (SelectsOf same_member (λ b a. FnReturnsAt g f b a) limit walks) (SelectsOf same_member Q limit walks)
    (λ r told. asked-more Q limit walks r told more) found is

-- an answer that is one of these two is refused for memory alone
pub either_refused : (r : Result (Option Member) Refusal) (b : Member) → (r ≡ Ok (Some b)) ⊎ (r ≡ Err OutOfMemory)
    → IfErr r (λ e. e ≡ OutOfMemory)
either_refused (Ok o) b is = tt
either_refused (Err e) b (inl is) = absurd (cc)
either_refused (Err e) b (inr is) = cc

-- where what was asked answers by what it is passed, what it accepts is what is right
pub of-told : {F : Type 0} {g : Shared F (Bor Member × (Bool × Unit {0})) Bool} {f : F} (right : Member → Bool → Type 0) (limit : ℕ)
    (walks : List Draw → List Member → Bool → Type 0) (r : Result (Option Member) Refusal)
    → SelectsOf same_member (λ b a. AcceptsBy g f right b a) limit walks r
    → ((p : Bor Member) (told a : Bool) → FnReturns g f (p, (told, tt)) a → a ≡ told) → SelectsOf same_member right limit walks r
of-told {g = g} {f = f} right limit walks r is same =
    of-more same_member (λ b a. AcceptsBy g f right b a) right
    (λ b a by. subst (λ x. right b x) (sym (same by.shown by.told a by.says)) by.is_right) limit walks r is
