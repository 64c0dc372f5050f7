-- A registered view, and what is made of it or refused after that.
use Rattle.std.proofs.Common.{◌≡◌, ◌∙◌, ◌<◌, ◌≤◌, ◌^◌, ◌↔◌, inl, inr, ℕ, Bool, true, false, nat_lt, Option, Some, None, Result, Ok, Err}
use Rattle.std.proofs.Common.{IfOk, IfErr, arith, refl, sym, ap, subst}
use Rattle.std.proofs.lemmas.Bool.Decides.{nat_tests}
use Rattle.std.specs.Prelude.{IsErrOf, IsTrue, ◌+◌}
use Rattle.std.specs.Result.{result_map_both}
use Rattle.lb_select_base.specs.Backends.{Member}
use Rattle.lb_select_base.specs.Refusals.{memory_apart}
use Rattle.lb_select_base.specs.declared.refusal.Refusal.{Refusal}
use Rattle.lb_select_base.specs.declared.refusal.Refusal.TheVariants.{NumbersExhausted, OutOfMemory}
use Rattle.lb_health_core.specs.Registry.{HoldsOf, IsGrowthRefusal, RegistryValue}
use Rattle.lb_health_core.specs.RegistryCalls.{IsRegistered}
use Rattle.lb_health_core.specs.RegistryEvents.{registered_after}
use Rattle.lb_rebuild_core.specs.GroupCalls.{IsMade}
use Rattle.lb_threads_core.specs.Registry.{IsRegistryOf, SeenIn, UnderRegistry}
use Rattle.lb_threads_core.proofs.Histories.{at_site, registered_later}
use Rattle.lb_threads_core.specs.View.{HasNumber, HasRegistered, IsFull, IsMadeWithView, IsRegisteredAs}

-- an answer is none of a refusal, nor is a lack of memory one of numbers
no-err : {A : Type 0} (a : A) → (let r : Result A Refusal = Ok a in IsErrOf r NumbersExhausted) → ⊥
no-err a is = cc

no-memory : {A : Type 0} (a : A) → (let r : Result A Refusal = Ok a in IsErrOf r OutOfMemory) → ⊥
no-memory a is = cc

no-number : {A : Type 0} → (let r : Result A Refusal = Err OutOfMemory in IsErrOf r NumbersExhausted) → ⊥
no-number is = cc

error_of : (A : Type 0) (e f : Refusal) → (let x : Result A Refusal = Err e in let y : Result A Refusal = Err f in x ≡ y) → e ≡ f
error_of A e f h = cc

pub err-as : {A B : Type 0} (e : Refusal) → (let r : Result A Refusal = Err e in IsErrOf r NumbersExhausted)
    → (let s : Result B Refusal = Err e in IsErrOf s NumbersExhausted)
err-as e is = cc

-- what the registry's call says of the number, of what has that number
pub registered-as : {A R : Type 0} {gives : R → Member → Member → Type 0} {x y : RegistryValue R} (id_of : A → ℕ) (r : Result A Refusal)
    → IsRegistered gives x (result_map_both id_of (λ refusal. refusal) r) y → IsRegisteredAs gives id_of r x y
registered-as {A} id_of (Ok a) is = record {
  ok = is.ok;
  number = is.number;
  exhausted = λ key_of events after. (
    λ never. absurd (no-err a never),
    λ full. absurd (no-err (id_of a) ((is.exhausted key_of events after).1 full)),
  );
}
registered-as {A} id_of (Err e) is = record {
  ok = tt;
  number = tt;
  exhausted = λ key_of events after. (
    λ why. (is.exhausted key_of events after).0 (err-as {A = A} {B = ℕ} e why),
    λ full. err-as {A = ℕ} {B = A} e ((is.exhausted key_of events after).1 full),
  );
}

-- where an exhausted count would have been told, a number is left
under-by : (b : Bool) (n : ℕ) → nat_lt n (2 ^ 64) ≡ b → (2 ^ 64 ≤ n → ⊥) → n < 2 ^ 64
under-by true n is few = grind (arith, nat_tests)
under-by false n is few = absurd (few (grind (arith, nat_tests)))

pub number-left : (n : ℕ) → (2 ^ 64 ≤ n → ⊥) → n < 2 ^ 64
number-left n few = under-by (nat_lt n (2 ^ 64)) n refl few

no-truth : (b : Bool) → b ≡ false → b ≡ true → ⊥
no-truth b denied holds = absurd (cc)

-- whether the registry is full, as it was seen
module _ {R : Type 0} {gives : R → Member → Member → Type 0} {start : RegistryValue R} {is_full : Bool} (seen : SeenIn gives start (λ x.
    HoldsOf gives x (λ key_of events. IsTrue is_full ↔ (2 ^ 64 ≤ registered_after events + 1)))) where
  pub seen-full : is_full ≡ true → SeenIn gives start (IsFull gives)
  seen-full full = (seen.0, (seen.1.0, λ key_of events after. (seen.1.1 key_of events after).0 full))

  pub seen-left : is_full ≡ false → SeenIn gives start (HasNumber gives)
  seen-left some = (
    seen.0,
    (
      seen.1.0,
      λ key_of events after.
          number-left _ (λ full. no-truth is_full some ((seen.1.1 key_of events after).1 full)),
    ),
  )

module _ {R : Type 0} {gives : R → Member → Member → Type 0} {start site : RegistryValue R} (same_start : start ≡ site) {A B : Type 0}
    (id_of : A → ℕ) (id : B → ℕ) {r : Result A Refusal} (told : UnderRegistry gives start (IsRegisteredAs gives id_of r)) where
  under : {s : Result B Refusal} → ((x y : RegistryValue R) → IsRegisteredAs gives id_of r x y → IsRegisteredAs gives id s x y)
      → UnderRegistry gives site (IsRegisteredAs gives id s)
  under more = (told.0, (told.1.0, (at_site same_start told.1.1.0, (told.1.1.1.0, more told.0 told.1.0 told.1.1.1.1))))

  at : {s : Result A Refusal} → r ≡ s → {x y : RegistryValue R} → IsRegisteredAs gives id_of r x y → IsRegisteredAs gives id_of s x y
  at same {x = x} {y = y} is = subst (λ t. IsRegisteredAs gives id_of t x y) same is

  -- what is made of the view has its number
  pub made-of : (a : A) (b : B) → r ≡ Ok a → id b ≡ id_of a
      → (let s : Result B Refusal = Ok b in UnderRegistry gives site (IsRegisteredAs gives id s))
  made-of a b is same = under (λ x y t.
      let was = at is t in
      record {
        ok = was.ok;
        number = λ key_of events after. same ∙ was.number key_of events after;
        exhausted = λ key_of events after. (
          λ never. absurd (no-err b never),
          λ full. absurd (no-err a ((was.exhausted key_of events after).1 full)),
        );
      })

  to : {s t : Result B Refusal} → s ≡ t → UnderRegistry gives site (IsRegisteredAs gives id t)
      → UnderRegistry gives site (IsRegisteredAs gives id s)
  to same is = subst (λ u. UnderRegistry gives site (IsRegisteredAs gives id u)) (sym same) is

  -- memory is refused after it
  pub lost-of : (a : A) → r ≡ Ok a → (s : Result B Refusal) → s ≡ Err OutOfMemory → UnderRegistry gives site (IsRegisteredAs gives id s)
  lost-of a is s refused = to refused (under (λ x y t.
      let was = at is t in
      record {
        ok = tt;
        number = tt;
        exhausted = λ key_of events after. (
          λ never. absurd (no-number {A = B} never),
          λ full. absurd (no-err a ((was.exhausted key_of events after).1 full)),
        );
      }))

  -- the view itself is refused
  pub err-of : (e : Refusal) → r ≡ Err e → (s : Result B Refusal) → s ≡ Err e → UnderRegistry gives site (IsRegisteredAs gives id s)
  err-of e is s refused = to refused (under (λ x y t.
      let was = at is t in
      record {
        ok = tt;
        number = tt;
        exhausted = λ key_of events after. (
          λ why. (was.exhausted key_of events after).0 (err-as {A = B} {B = A} e why),
          λ full. err-as {A = A} {B = B} e ((was.exhausted key_of events after).1 full),
        );
      }))

  -- what is made of the view has its number, or memory is refused
  pub behind-of : (a : A) → r ≡ Ok a → (s : Result B Refusal) → IfOk s (λ b. id b ≡ id_of a) → IfErr s (λ e. e ≡ OutOfMemory)
      → UnderRegistry gives site (IsRegisteredAs gives id s)
  behind-of a is (Ok b) same refused = made-of a b is same
  behind-of a is (Err e) same refused = lost-of a is (Err e) (ap Err refused)

-- where a number is left for a view, memory is refused
pub registers : {A : Type 0} (e : Refusal) → (let r : Result A Refusal = Err e in IsGrowthRefusal r × (IsErrOf r NumbersExhausted → ⊥))
    → e ≡ OutOfMemory
registers {A = A} e (inl memory, few) = error_of A e OutOfMemory memory
registers {A = A} e (inr numbers, few) = absurd (few numbers)

-- a want of numbers is no cause here
pub no-cause : (cause : Option Refusal) → memory_apart cause ≡ None → cause ≡ Some NumbersExhausted → ⊥
no-cause (Some e) apart is = absurd (cc)
no-cause None apart is = absurd (cc)

-- memory is no want of numbers
pub apart-from : (e : Refusal) → e ≡ OutOfMemory → e ≡ NumbersExhausted → ⊥
apart-from e memory numbers = absurd (cc)

error-is : (A : Type 0) (e f : Refusal) → (let r : Result A Refusal = Err e in IsErrOf r f) → e ≡ f
error-is A e f is = cc

module _ {R : Type 0} {gives : R → Member → Member → Type 0} {start : RegistryValue R} {cause : Option Refusal} {B : Type 0}
    {id_of : B → ℕ} where
  -- what was made has its view
  pub made-with : (b : B) → UnderRegistry gives start (HasRegistered gives (id_of b))
      → (let s : Result B Refusal = Ok b in IsMadeWithView gives start cause s id_of)
  made-with b told = record {
    registered = told;
    exhausted = λ apart none. absurd (no-err b none);
    left = λ apart lost. absurd (no-memory b lost);
  }

  -- refused, for the want of numbers only where none is left, and for memory only where one is
  pub refused-with : (s : Result B Refusal) (e : Refusal) → s ≡ Err e
      → (memory_apart cause ≡ None → e ≡ NumbersExhausted → SeenIn gives start (IsFull gives))
      → (memory_apart cause ≡ None → e ≡ OutOfMemory → SeenIn gives start (HasNumber gives)) → IsMadeWithView gives start cause s id_of
  refused-with s e is full left =
      subst (λ t. IsMadeWithView gives start cause t id_of) (sym is)
      (record {
        registered = tt;
        exhausted = λ apart none. full apart (error-is B e NumbersExhausted none);
        left = λ apart lost. left apart (error-is B e OutOfMemory lost);
      })

  -- refused for memory, where a number was left
  pub lost-with : (s : Result B Refusal) (e : Refusal) → s ≡ Err e → e ≡ OutOfMemory
      → (memory_apart cause ≡ None → SeenIn gives start (HasNumber gives)) → IsMadeWithView gives start cause s id_of
  lost-with s e is memory left =
      refused-with s e is (λ apart numbers. absurd (apart-from e memory numbers)) (λ apart lost. left apart)

-- after a view was registered: then a number was left
pub left-for : {R : Type 0} {gives : R → Member → Member → Type 0} {start : RegistryValue R} {n : ℕ}
    → UnderRegistry gives start (HasRegistered gives n) → SeenIn gives start (HasNumber gives)
left-for told = (told.0, (told.1.1.0, told.1.1.1.1.left))

module _ {R : Type 0} {gives : R → Member → Member → Type 0} {start site : RegistryValue R} (same_start : start ≡ site) where
  -- the same registry was seen
  pub seen-at : {Told : RegistryValue R → Type 0} → SeenIn gives start Told → SeenIn gives site Told
  seen-at seen = (seen.0, (at_site same_start seen.1.0, seen.1.1))

  module _ {A : Type 0} {id_of : A → ℕ} {r : Result A Refusal} (told : UnderRegistry gives start (IsRegisteredAs gives id_of r)) where
    -- the view that a call registered, which has this number
    pub has-registered : (a : A) → r ≡ Ok a → (n : ℕ) → n ≡ id_of a → UnderRegistry gives site (HasRegistered gives n)
    has-registered a is n same =
        let was = at same_start id_of id_of told is told.1.1.1.1 in (
          told.0,
          (
            told.1.0,
            (
              at_site same_start told.1.1.0,
              (
                told.1.1.1.0,
                record {
                  grows = was.ok;
                  next = λ key_of events after. same ∙ was.number key_of events after;
                  left = λ key_of events after.
                      number-left _ (λ full. no-err a ((was.exhausted key_of events after).1 full));
                },
              ),
            ),
          ),
        )

    -- a call that found no number for one
    pub had-none : (e : Refusal) → r ≡ Err e → e ≡ NumbersExhausted → SeenIn gives site (IsFull gives)
    had-none e is numbers = (
      told.0,
      (
        at_site same_start told.1.1.0,
        λ key_of events after.
            (told.1.1.1.1.exhausted key_of events after).0 (is ∙ ap Err numbers),
      ),
    )

    -- a call that found one, but no memory
    pub had-one : (e : Refusal) → r ≡ Err e → e ≡ OutOfMemory → SeenIn gives site (HasNumber gives)
    had-one e is memory = (
      told.0,
      (
        at_site same_start told.1.1.0,
        λ key_of events after.
            number-left _ (λ full. no-number (sym (is ∙ ap Err memory) ∙ (told.1.1.1.1.exhausted key_of events after).1 full)),
      ),
    )

-- what a call of the plain registry made, behind its lock
pub made-under : {R A : Type 0} {gives : R → Member → Member → Type 0} {start x y : RegistryValue R} {cause : Option Refusal}
    (r : Result A Refusal) (number : A → ℕ) → IsRegistryOf gives start x → IsMade gives cause x r number y
    → IsMadeWithView gives start cause r number
made-under {x = x} {y = y} (Ok a) number of is = made-with a (
  x,
  (
    y,
    (
      of,
      (
        registered_later {E = Refusal} (Ok a) is.registry is.err,
        record {
          grows = is.registry;
          next = is.id;
          left = λ key_of events after.
              number-left _ (λ full. no-err a ((is.exhausted key_of events after (ap memory_apart is.refused)).1 full));
        },
      ),
    ),
  ),
)
made-under {x = x} (Err e) number of is =
    refused-with (Err e) e refl
    (λ apart numbers. (x, (of, λ key_of events after. (is.exhausted key_of events after apart).0 (ap Err numbers))))
    (λ apart memory. (
      x,
      (
        of,
        λ key_of events after.
            number-left _ (λ full. no-number (sym (ap Err memory) ∙ (is.exhausted key_of events after apart).1 full)),
      ),
    ))

-- the view of what was made
known : {R : Type 0} {gives : R → Member → Member → Type 0} {start site : RegistryValue R} (same_start : start ≡ site)
    {cause : Option Refusal} {A : Type 0} (id_of : A → ℕ) {r : Result A Refusal} (told : IsMadeWithView gives start cause r id_of) (a : A)
    → r ≡ Ok a → UnderRegistry gives site (HasRegistered gives (id_of a))
known {gives = gives} {start = start} same_start {cause = cause} id_of told a is =
    let was = subst (λ t. IsMadeWithView gives start cause t id_of) is told in
    let view = was.registered in
    (view.0, (view.1.0, (at_site same_start view.1.1.0, view.1.1.1)))

module _ {R : Type 0} {gives : R → Member → Member → Type 0} {start site : RegistryValue R} (same_start : start ≡ site)
    {cause other : Option Refusal} (apart_too : memory_apart other ≡ None → memory_apart cause ≡ None) {A B : Type 0} (id_of : A → ℕ)
    (id : B → ℕ) {r : Result A Refusal} (told : IsMadeWithView gives start cause r id_of) where
  -- what is made of it has its view, under the number that is the same
  pub passed-with : (a : A) (b : B) → r ≡ Ok a → id b ≡ id_of a
      → (let s : Result B Refusal = Ok b in IsMadeWithView gives site other s id)
  passed-with a b is same = made-with b (subst (λ n. UnderRegistry gives site (HasRegistered gives n)) (sym same)
      (known same_start id_of told a is))

  -- refused as it
  pub refused-as : (s : Result B Refusal) (e : Refusal) → r ≡ Err e → s ≡ Err e → IsMadeWithView gives site other s id
  refused-as s e is refused =
      refused-with s e refused
      (λ apart numbers. seen-at same_start (told.exhausted (apart_too apart) (is ∙ ap Err numbers)))
      (λ apart memory. seen-at same_start (told.left (apart_too apart) (is ∙ ap Err memory)))

  -- what is made of it has its view, or memory is refused
  pub behind-with : (a : A) → r ≡ Ok a → (s : Result B Refusal) → IfOk s (λ b. id b ≡ id_of a) → IfErr s (λ e. e ≡ OutOfMemory)
      → IsMadeWithView gives site other s id
  behind-with a is (Ok b) same refused = passed-with a b is same
  behind-with a is (Err e) same refused = lost-with (Err e) e refl refused (λ apart. left-for (known same_start id_of told a is))
