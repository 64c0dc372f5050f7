-- Why view and registry refuse a membership: the least cause that applies, and memory only where none does.
use Rattle.std.proofs.Common.{◌≡◌, inl, inr, ◌∙◌, ◌+◌, ◌^◌, ◌≤◌, ℕ, Bool, true, false, not, List, ◌∷◌, Some, None, Result}
use Rattle.std.proofs.Common.{Err, OnErr, IsOk, ap, refl, sym, subst, arith, unwrap_or}
use Rattle.std.specs.Prelude.{◌≢◌, ◌==◌, if◌then◌else◌, nat_le}
use Rattle.std.proofs.lemmas.Bool.{false≢true, eq-eqb}
use Rattle.std.proofs.lemmas.Bool.Decides.{nat_tests}
use Rattle.lb_select_base.specs.Backends.{Member}
use Rattle.lb_select_base.specs.Memberships.{same_members}
use Rattle.lb_select_base.specs.declared.refusal.Refusal.{Refusal}
use Rattle.lb_select_base.specs.declared.refusal.Refusal.TheVariants.{GenerationsExhausted, NoSuch, NumbersExhausted, OutOfMemory}
use Rattle.lb_health_core.specs.Registry.{RegistryValue}
use Rattle.lb_health_core.specs.RegistryEvents.{Updated, Applied, cells_given, has_view, views_after}
use Rattle.lb_health_view.specs.Causes.{view_cause}
use Rattle.lb_health_view.specs.Snapshots.{ViewValue}
use Rattle.lb_health_view.specs.Updates.{IfAnother, ViewRefuses}
use Rattle.lb_health_view.specs.ViewEvents.{ViewEvent, generation_after, membership_after}
use Rattle.lb_health_view.specs.Views.{HoldsOfBoth, IsViewAfter, IsViewRefusal}
use Rattle.lb_balancer_core.specs.ServedViews.{IsLeastCause}

-- the first test that holds has its refusal, and where none holds it is memory's
by-tests : (a b c : Bool) (e : Refusal) → (a ≡ true → e ≡ GenerationsExhausted) → (a ≡ false → b ≡ false → e ≡ NoSuch)
    → (a ≡ false → b ≡ true → c ≡ true → e ≡ NumbersExhausted) → (a ≡ false → b ≡ true → c ≡ false → e ≡ OutOfMemory)
    → e ≡ unwrap_or (if a then Some GenerationsExhausted else if not b then Some NoSuch else if c then Some NumbersExhausted else None)
    OutOfMemory
by-tests true b c e p q r s = p refl
by-tests false false c e p q r s = q refl refl
by-tests false true true e p q r s = r refl refl refl
by-tests false true false e p q r s = s refl refl refl

equal-of : (n m : ℕ) → (n == m) ≡ true → n ≡ m
equal-of n m e = grind (arith, nat_tests)

differ-of : (n m : ℕ) → (n == m) ≡ false → n ≢ m
differ-of n m e h = false≢true (sym e ∙ eq-eqb n m h)

least-of : (n m : ℕ) → nat_le n m ≡ true → n ≤ m
least-of n m e = grind (arith, nat_tests)

more-of : (n m : ℕ) → nat_le n m ≡ false → n ≤ m → ⊥
more-of n m e h = grind (arith, nat_tests)

other-of : (b : Bool) → (b ≡ true → ⊥) → b ≡ false
other-of true never = absurd (never refl)
other-of false never = refl

pub err-of : (A : Type 0) (e f : Refusal) → (let r : Result A Refusal = Err e in let s : Result A Refusal = Err f in r ≡ s) → e ≡ f
err-of A e f h = cc

no-answer : (A : Type 0) (e : Refusal) → (let r : Result A Refusal = Err e in IsOk r) → ⊥
no-answer A e is = false≢true is

-- what is no refusal for a cause is one for memory
by-kind : (A : Type 0) (e : Refusal) → (let r : Result A Refusal = Err e in IsViewRefusal r) → (e ≡ GenerationsExhausted → ⊥)
    → (e ≡ NoSuch → ⊥) → (e ≡ NumbersExhausted → ⊥) → e ≡ OutOfMemory
by-kind A e (inl is) last unknown numbers = absurd (last (err-of A e GenerationsExhausted is))
by-kind A e (inr (inl is)) last unknown numbers = err-of A e OutOfMemory is
by-kind A e (inr (inr (inl is))) last unknown numbers = absurd (numbers (err-of A e NumbersExhausted is))
by-kind A e (inr (inr (inr is))) last unknown numbers = absurd (unknown (err-of A e NoSuch is))

module _ {R A : Type 0} (gives : R → Member → Member → Type 0) (v : ViewValue) (x : RegistryValue R) (members : List Member) (e : Refusal)
    (r : Result A Refusal) (is : r ≡ Err e) where
  abbrev err : Refusal → Result A Refusal
  err f = Err f

  told : (f : Refusal) → r ≡ err f → e ≡ f
  told f h = err-of A e f (sym is ∙ h)

  tell : (f : Refusal) → e ≡ f → r ≡ err f
  tell f h = subst (λ f. r ≡ err f) h is

  -- a refused update of a view tells the least cause
  pub least-cause : {w : ViewValue} {y : RegistryValue R}
      → ((views : List ViewEvent) → IsViewAfter views v → same_members members (membership_after views) ≡ true → IsOk r)
      → ViewRefuses gives (IfAnother members v) members v x r w y → IsLeastCause gives v x members e
  least-cause same refusals key_of views events after registry =
      let other = other-of (same_members members (membership_after views))
      (λ h. no-answer A e (subst (λ y. IsOk y) is (same views after h)))
      in
      let kind = subst (λ y. OnErr y (IsViewRefusal y)) is refusals.refused in
      let n = generation_after views + 1 in
      let next : v.generation + 1 ≡ n = ap (λ m. m + 1) after.generation in
      let given = cells_given key_of (Updated v.id members ∷ Applied ∷ events) in
      by-tests (n == 2 ^ 64) (has_view v.id (views_after events)) (nat_le (2 ^ 64) given) e
      (λ a. told GenerationsExhausted (refusals.exhausted views after other (next ∙ equal-of n (2 ^ 64) a)))
      (λ a b. told NoSuch (refusals.registry.missing key_of events registry views after other
      (λ full. differ-of n (2 ^ 64) a (sym next ∙ full)) b))
      (λ a b c. told NumbersExhausted (refusals.registry.lacking key_of events registry views after other
      (λ full. differ-of n (2 ^ 64) a (sym next ∙ full)) b (least-of (2 ^ 64) given c)))
      (λ a b c. by-kind A e kind
      (λ h. differ-of n (2 ^ 64) a (sym next ∙ refusals.last (tell GenerationsExhausted h)))
      (λ h. false≢true (sym (refusals.registry.unknown (tell NoSuch h) key_of events registry) ∙ b))
      (λ h. more-of (2 ^ 64) given c (refusals.registry.numbers (tell NumbersExhausted h) key_of events registry)))

-- where no test holds there is no cause
by-none : (a b c : Bool) → (a ≡ true → ⊥) → (a ≡ false → b ≡ false → ⊥) → (a ≡ false → b ≡ true → c ≡ true → ⊥)
    → (if a then Some GenerationsExhausted else if not b then Some NoSuch else if c then Some NumbersExhausted else None) ≡ None
by-none true b c p q r = absurd (p refl)
by-none false false c p q r = absurd (q refl refl)
by-none false true true p q r = absurd (r refl refl refl)
by-none false true false p q r = refl

module _ {R A : Type 0} (gives : R → Member → Member → Type 0) (v : ViewValue) (x : RegistryValue R) (members : List Member)
    (r : Result A Refusal) (answered : IsOk r) where
  abbrev refusal : Refusal → Result A Refusal
  refusal f = Err f

  none : (f : Refusal) → r ≡ refusal f → ⊥
  none f is = no-answer A f (subst (λ y. IsOk y) is answered)

  -- where a view took another membership there was no cause to refuse it
  pub free-of-cause : {w : ViewValue} {y : RegistryValue R}
      → ((views : List ViewEvent) → IsViewAfter views v → same_members members (membership_after views) ≡ false)
      → ViewRefuses gives (IfAnother members v) members v x r w y
      → HoldsOfBoth gives v x (λ key_of views events. view_cause key_of v.id members events views ≡ None)
  free-of-cause differ refusals key_of views events after registry =
      let other = differ views after in
      let n = generation_after views + 1 in
      let next : v.generation + 1 ≡ n = ap (λ m. m + 1) after.generation in
      let given = cells_given key_of (Updated v.id members ∷ Applied ∷ events) in
      by-none (n == 2 ^ 64) (has_view v.id (views_after events)) (nat_le (2 ^ 64) given)
      (λ a. none GenerationsExhausted (refusals.exhausted views after other (next ∙ equal-of n (2 ^ 64) a)))
      (λ a b. none NoSuch (refusals.registry.missing key_of events registry views after other
      (λ full. differ-of n (2 ^ 64) a (sym next ∙ full)) b))
      (λ a b c. none NumbersExhausted (refusals.registry.lacking key_of events registry views after other
      (λ full. differ-of n (2 ^ 64) a (sym next ∙ full)) b (least-of (2 ^ 64) given c)))
