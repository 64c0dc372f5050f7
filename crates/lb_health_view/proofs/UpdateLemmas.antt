-- What an update of a view promises of one answer it promises of another that is refused alike.
use Rattle.std.proofs.Common.{◌≡◌, inl, inr, List, Bool, Result, Ok, Err, refl, subst}
use Rattle.lb_select_base.specs.Backends.{Member}
use Rattle.lb_select_base.specs.declared.refusal.Refusal.{Refusal}
use Rattle.lb_health_core.specs.Registry.{RegistryValue}
use Rattle.lb_health_view.specs.Snapshots.{ViewValue}
use Rattle.lb_health_view.specs.Updates.{IsViewUpdated}
use Rattle.lb_health_view.specs.Views.{IsViewRefusal}

-- an answer is no refusal
no-refusal : {A : Type 0} {a : A} {e : Refusal} → (let r : Result A Refusal = Ok a in let s : Result A Refusal = Err e in r ≡ s) → ⊥
no-refusal h = cc

-- the same refusal of another answer
same-refusal : {A B : Type 0} {e f : Refusal} → (let r : Result A Refusal = Err e in let s : Result A Refusal = Err f in r ≡ s)
    → (let r : Result B Refusal = Err e in let s : Result B Refusal = Err f in r ≡ s)
same-refusal h = cc

view-refusal : {A B : Type 0} (e : Refusal) → (let r : Result A Refusal = Err e in IsViewRefusal r)
    → (let s : Result B Refusal = Err e in IsViewRefusal s)
view-refusal e (inl is) = inl (same-refusal is)
view-refusal e (inr (inl is)) = inr (inl (same-refusal is))
view-refusal e (inr (inr (inl is))) = inr (inr (inl (same-refusal is)))
view-refusal e (inr (inr (inr is))) = inr (inr (inr (same-refusal is)))

module _ {R A B : Type 0} {gives : R → Member → Member → Type 0} {members : List Member} {settings : List (Member × Bool)}
    {v w : ViewValue} {x y : RegistryValue R} where
  from-answer : (a : A) (b : B) → (let r : Result A Refusal = Ok a in IsViewUpdated gives members settings v x r w y)
      → (let s : Result B Refusal = Ok b in IsViewUpdated gives members settings v x s w y)
  from-answer a b is = record {
    view = is.view;
    registry = is.registry;
    some = is.some;
    same = λ views after same. refl;
    refusals = record {
      view_err = tt;
      registry_err = tt;
      exhausted = λ views after other full. absurd (no-refusal (is.refusals.exhausted views after other full));
      last = λ why. absurd (no-refusal why);
      registry = record {
        unknown = λ why. absurd (no-refusal why);
        numbers = λ why. absurd (no-refusal why);
        missing = λ key_of events known views after other left none.
            absurd (no-refusal (is.refusals.registry.missing key_of events known views after other left none));
        lacking = λ key_of events known views after other left has few.
            absurd (no-refusal (is.refusals.registry.lacking key_of events known views after other left has few));
      };
      refused = tt;
      id = is.refusals.id;
      one_registry = is.refusals.one_registry;
    };
  }

  from-refusal : (e : Refusal) → (let r : Result A Refusal = Err e in IsViewUpdated gives members settings v x r w y)
      → (let s : Result B Refusal = Err e in IsViewUpdated gives members settings v x s w y)
  from-refusal e is = record {
    view = tt;
    registry = tt;
    some = tt;
    same = is.same;
    refusals = record {
      view_err = is.refusals.view_err;
      registry_err = is.refusals.registry_err;
      exhausted = λ views after other full. same-refusal (is.refusals.exhausted views after other full);
      last = λ why. is.refusals.last (same-refusal why);
      registry = record {
        unknown = λ why. is.refusals.registry.unknown (same-refusal why);
        numbers = λ why. is.refusals.registry.numbers (same-refusal why);
        missing = λ key_of events known views after other left none.
            same-refusal (is.refusals.registry.missing key_of events known views after other left none);
        lacking = λ key_of events known views after other left has few.
            same-refusal (is.refusals.registry.lacking key_of events known views after other left has few);
      };
      refused = view-refusal e is.refusals.refused;
      id = is.refusals.id;
      one_registry = is.refusals.one_registry;
    };
  }

  pub answered-alike : (r : Result A Refusal) (a : A) (b : B) → r ≡ Ok a → IsViewUpdated gives members settings v x r w y
      → (let s : Result B Refusal = Ok b in IsViewUpdated gives members settings v x s w y)
  answered-alike r a b at is = from-answer a b (subst (λ t. IsViewUpdated gives members settings v x t w y) at is)

  pub refused-alike : (r : Result A Refusal) (e : Refusal) → r ≡ Err e → IsViewUpdated gives members settings v x r w y
      → (let s : Result B Refusal = Err e in IsViewUpdated gives members settings v x s w y)
  refused-alike r e at is = from-refusal e (subst (λ t. IsViewUpdated gives members settings v x t w y) at is)
