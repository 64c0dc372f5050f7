-- The causes for which a step is refused: the want of numbers goes after all others, and memory is no cause; and what is right to
-- answer where there is a cause, and where there is none and memory is refused.
use Rattle.std.proofs.Common.{◌≡◌, ◌⊎◌, ◌↔◌, ◌+◌, ◌<◌, ◌≤◌, ◌^◌, ◌&&◌, ◌||◌, ◌∙◌, ℕ, Bool, true, false, cond, nat_le, nat_lt, List, [], ◌∷◌}
use Rattle.std.proofs.Common.{inl, inr, refl, sym, ap, arith}
use Rattle.std.specs.Prelude.{Option, Some, None, Result, Ok, Err, IsErrOf}
use Rattle.lb_rebuild_core.specs.GroupCalls.{IsMakingRefusal}
use Rattle.std.proofs.lemmas.Bool.{cond_both, le-leb, le-ltb, lt-leb, lt-ltb, ltb-false, ltb-true}
use Rattle.lb_select_base.specs.Refusals.{earlier, memory_apart, refusal_number}
use Rattle.lb_select_base.specs.declared.refusal.Refusal.{Refusal}
use Rattle.lb_select_base.specs.declared.refusal.Refusal.TheVariants as refusal
use Rattle.lb_world.specs.Steps.{Step}
use Rattle.lb_world.specs.declared.answer.Answer.{Answer}
use Rattle.lb_world.specs.Answers.{no_number, no_such, refuse, unless_refused, where_, without_memory}
use Rattle.lb_world.specs.Internal.Calls.{making_cause, or_memory}
use Rattle.lb_world.proofs.Accepted.{earlier-none}

-- no refusal has a greater number than the want of numbers
last-of : (e : Refusal) → nat_lt 17 (refusal_number e) ≡ false
last-of refusal.InvalidAddress = refl
last-of e = refl

abbrev pub wanted : Bool → Option Refusal
wanted b = where_ b refusal.NumbersExhausted

-- so a cause goes before it
pub cause-first : {p : Option Refusal} {e : Refusal} (b : Bool) → p ≡ Some e → earlier p (wanted b) ≡ Some e
cause-first {e = e} true is =
    ap (λ o. earlier o (Some refusal.NumbersExhausted)) is ∙ ap (λ t. cond t (Some refusal.NumbersExhausted) (Some e)) (last-of e)
cause-first false is = ap (λ o. earlier o None) is

-- a number is wanted where another test holds too
pub wanted-both : (b c : Bool) → cond b (wanted c) None ≡ wanted (b && c)
wanted-both true c = refl
wanted-both false c = refl

-- a number is left, or none
pub number-left : (n : ℕ) → n < 2 ^ 64 → no_number n ≡ None
number-left n few = ap wanted (lt-leb (2 ^ 64) n few)

pub number-wanted : (n : ℕ) → 2 ^ 64 ≤ n → no_number n ≡ Some refusal.NumbersExhausted
number-wanted n many = ap wanted (le-leb (2 ^ 64) n many)

-- of three causes the earliest, whichever two are looked at first
earlier-by : (a b c : Refusal) (t u : Bool) → nat_lt (refusal_number c) (refusal_number b) ≡ t
    → nat_lt (refusal_number b) (refusal_number a) ≡ u
    → earlier (Some a) (cond t (Some c) (Some b)) ≡ earlier (cond u (Some b) (Some a)) (Some c)
earlier-by a b c true true p q =
    let low = ltb-true (refusal_number c) (refusal_number b) p in
    let next = ltb-true (refusal_number b) (refusal_number a) q in
    rw (p, lt-ltb (refusal_number c) (refusal_number a) (omega (arith, low, next))) refl
earlier-by a b c true false p q = refl
earlier-by a b c false true p q = rw (p, q) refl
earlier-by a b c false false p q =
    let low = ltb-false (refusal_number c) (refusal_number b) p in
    let next = ltb-false (refusal_number b) (refusal_number a) q in
    rw (q, le-ltb (refusal_number c) (refusal_number a) (omega (arith, low, next))) refl

pub earlier-assoc : (p q r : Option Refusal) → earlier p (earlier q r) ≡ earlier (earlier p q) r
earlier-assoc None q r = refl
earlier-assoc (Some a) None r = refl
earlier-assoc (Some a) (Some b) None =
    cond_both (nat_lt (refusal_number b) (refusal_number a)) (Some b) (Some a) (λ o. o ≡ earlier o None) (λ t. refl) (λ t. refl)
earlier-assoc (Some a) (Some b) (Some c) = earlier-by a b c _ _ refl refl

-- no cause of two, so neither; and a registry and a gate of which none is missing are there
pub no-causes : (p q : Option Refusal) → earlier p q ≡ None → (p ≡ None) × (q ≡ None)
no-causes p q is = let first = earlier-none p q is in (first, ap (λ o. earlier o q) (sym first) ∙ is)

pub none-missing : (b : Bool) → no_such b ≡ None → b ≡ true
none-missing true is = refl
none-missing false is = absurd (cc)

abbrev pub IsRight : {C : Type 0} → Step C → Answer → Answer → Type 0
IsRight st y a = (a ≡ y) ⊎ (a ≡ without_memory st y)

-- what is right for a step that answers x where there is no cause
module _ {C : Type 0} (st : Step C) (x : Answer) {y : Answer} {o : Option Refusal} (told : y ≡ unless_refused o x) where
  pub caused : {r : Refusal} → o ≡ Some r → IsRight st y (refuse r)
  caused is = inl (sym (told ∙ ap (λ o. unless_refused o x) is))

  pub uncaused : o ≡ None → y ≡ x
  uncaused none = told ∙ ap (λ o. unless_refused o x) none

  pub out-of-memory : o ≡ None → without_memory st x ≡ refuse refusal.OutOfMemory → IsRight st y (refuse refusal.OutOfMemory)
  out-of-memory none memory = inr (sym (ap (without_memory st) (uncaused none) ∙ memory))

-- a refusal for the cause that there is, or for memory where there is none
pub refused-for : {C : Type 0} (st : Step C) (x : Answer) → without_memory st x ≡ refuse refusal.OutOfMemory → (o : Option Refusal)
    → (refuse (or_memory o) ≡ unless_refused o x) ⊎ (refuse (or_memory o) ≡ without_memory st (unless_refused o x))
refused-for st x memory (Some e) = inl refl
refused-for st x memory None = inr (sym memory)

-- there is no cause where the selectors have none and a number is left
pub makes-for : (c : Option Refusal) (n : ℕ) → c ≡ None → n + 1 < 2 ^ 64 → making_cause c n ≡ None
makes-for c n none few = ap (λ o. earlier o (no_number (n + 1))) none ∙ number-left (n + 1) few

told-so : {A : Type 0} {e f : Refusal} → ◌≡◌ {A = Result A Refusal} (Err e) (Err f) → e ≡ f
told-so is = cc

memory-or-numbers : refusal.OutOfMemory ≡ refusal.NumbersExhausted → ⊥
memory-or-numbers e = absurd (cc)

made-or-refused : {A : Type 0} {x : A} {e : Refusal} → ◌≡◌ {A = Result A Refusal} (Ok x) (Err e) → ⊥
made-or-refused is = absurd (cc)

-- why the core of a group was not made, so why the group was not; and that there is no cause where one was made
module _ {A : Type 0} (c : Option Refusal) (n : ℕ) where
  abbrev Exhausts : Result A Refusal → Type 0
  Exhausts result = memory_apart c ≡ None → (IsErrOf result refusal.NumbersExhausted ↔ (2 ^ 64 ≤ n + 1))

  pub fits-for : (x : A) → c ≡ None → Exhausts (Ok x) → making_cause c n ≡ None
  fits-for x none wants =
      let off = λ (many : 2 ^ 64 ≤ n + 1). made-or-refused ((wants (ap memory_apart none)).1 many) in
      makes-for c n none (omega (arith, off))

  pub unmade-for : (e : Refusal) → memory_apart c ≡ c → IsMakingRefusal {A = A} c (Err e) → Exhausts (Err e)
      → e ≡ or_memory (making_cause c n)
  unmade-for e apart why wants =
      elim why [
        | inl is ↦ sym (ap or_memory (cause-first (nat_le (2 ^ 64) (n + 1)) is))
        | inr none ↦
            let nothing : c ≡ None = sym apart ∙ none.0 in
            elim none.1 [
              | inl memory ↦
                  let off = λ (many : 2 ^ 64 ≤ n + 1). memory-or-numbers (sym memory ∙ told-so {A = A} ((wants none.0).1 many)) in
                  memory ∙ sym (ap or_memory (makes-for c n nothing (omega (arith, off))))
              | inr numbers ↦
                  numbers
                  ∙ sym (ap or_memory (ap (λ o. earlier o (no_number (n + 1))) nothing
                  ∙ number-wanted (n + 1) ((wants none.0).0 (ap Err numbers))))
            ]
      ]
