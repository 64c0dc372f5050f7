-- What a view took in is what its update did, and a refusal has its cause.
use Rattle.std.proofs.Common.{◌≡◌, ◌≢◌, ◌+◌, ◌^◌, inl, inr, ◌∙◌, Bool, true, false}
use Rattle.std.proofs.Common.{List, Some, None, Result, Ok, Err, refl, sym, ap, subst}
use Rattle.std.specs.Prelude.{OnOk, OnErr, IsErrOf, IsOk}
use Rattle.std.proofs.lemmas.Result.{IfOk-at_ok}
use Rattle.lb_select_base.specs.Backends.{Member}
use Rattle.lb_select_base.specs.declared.refusal.Refusal.{Refusal}
use Rattle.lb_select_base.specs.declared.refusal.Refusal.TheVariants.{Discovery, GenerationsExhausted, NoSuch}
use Rattle.lb_select_base.specs.declared.refusal.Refusal.TheVariants.{NumbersExhausted, OutOfMemory}
use Rattle.lb_health_core.specs.Registry.{RegistryValue, IsRegistryAfter, KeepsHistory}
use Rattle.lb_health_core.specs.RegistryEvents.{Event}
use Rattle.lb_health_view.specs.Discoveries.{Discovers, Found}
use Rattle.lb_health_view.specs.RegistrySide.{registry_updated}
use Rattle.lb_health_view.specs.Snapshots.{ViewValue}
use Rattle.lb_health_view.specs.ViewEvents.{ViewEvent, generation_after}
use Rattle.lb_health_view.specs.Views.{IsFounded, IsViewAfter, IsViewRefusal}
use Rattle.lb_health_view.specs.Updates.{IsBackendsRefusal, IsViewUpdated, LacksNumbers, LacksView}
use Rattle.lb_threads_core.specs.Registry.{IsRegistryOf, UnderRegistry}
use Rattle.lb_threads_core.proofs.Histories.{changed, lengthened, stays}
use Rattle.lb_threads_core.proofs.Registrations.{number-left}
use Rattle.lb_threads_core.specs.View.{Calls, HasLast, IsState, IsTakenIn, Keeps, LacksMemory, RefusedFor}
use Rattle.lb_threads_core.specs.View.{Takes, UnderBoth, UpdatedUnder}
use Rattle.lb_threads_core.specs.View.{ViewHandle}
use Rattle.lb_threads_core.proofs.Memberships.{is-other, is-same}

-- the same error of another answer
pub err-of : {A B : Type 0} {e f : Refusal} → (let r : Result A Refusal = Err e in let s : Result A Refusal = Err f in r ≡ s)
    → (let r : Result B Refusal = Err e in let s : Result B Refusal = Err f in r ≡ s)
err-of h = cc

-- a refusal of the view is none of the discovery
pub no-fault : {A B : Type 0} (e : Refusal) → (let r : Result A Refusal = Err e in IsViewRefusal r)
    → (let r : Result B Refusal = Err e in IsErrOf r Discovery) → ⊥
no-fault e (inl is) fault = cc
no-fault e (inr (inl is)) fault = cc
no-fault e (inr (inr (inl is))) fault = cc
no-fault e (inr (inr (inr is))) fault = cc

pub refusal-of : {A B : Type 0} (e : Refusal) → (let r : Result A Refusal = Err e in IsViewRefusal r)
    → (let r : Result B Refusal = Err e in IsBackendsRefusal r)
refusal-of e (inl is) = inr (inl (err-of is))
refusal-of e (inr (inl is)) = inr (inr (inl (err-of is)))
refusal-of e (inr (inr (inl is))) = inr (inr (inr (inl (err-of is))))
refusal-of e (inr (inr (inr is))) = inr (inr (inr (inr (err-of is))))

-- what holds of an answer, and of an error
at-ok : {T E P : Type 0} {r : Result T E} {a : T} → r ≡ Ok a → OnOk r P → P
at-ok {P = P} is told = subst (λ s. OnOk s P) is told

at-err : {T E P : Type 0} {r : Result T E} {e : E} → r ≡ Err e → OnErr r P → P
at-err {P = P} is told = subst (λ s. OnErr s P) is told

no-true : (b : Bool) → (b ≡ true → ⊥) → b ≡ false
no-true true never = absurd (never refl)
no-true false never = refl

no-false : (b : Bool) → (b ≡ false → ⊥) → b ≡ true
no-false true never = refl
no-false false never = absurd (never refl)

-- a refusal for memory is no answer, and none for something else
no-answer : (A : Type 0) (r : Result A Refusal) → r ≡ Err OutOfMemory → IsOk r → ⊥
no-answer A (Ok a) memory is = absurd (cc)
no-answer A (Err e) memory is = absurd (cc)

no-last : (A : Type 0) (r : Result A Refusal) → r ≡ Err OutOfMemory → r ≡ Err GenerationsExhausted → ⊥
no-last A r memory other = absurd (cc)

no-such : (A : Type 0) (r : Result A Refusal) → r ≡ Err OutOfMemory → r ≡ Err NoSuch → ⊥
no-such A r memory other = absurd (cc)

no-numbers : (A : Type 0) (r : Result A Refusal) → r ≡ Err OutOfMemory → r ≡ Err NumbersExhausted → ⊥
no-numbers A r memory other = absurd (cc)

-- the plain view's update is refused for memory only where nothing else stands against it
pub lacks-memory : {R A : Type 0} {gives : R → Member → Member → Type 0} {settings : List (Member × Bool)} {v w : ViewValue}
    {x y : RegistryValue R} (members : List Member) (r : Result A Refusal) → r ≡ Err OutOfMemory
    → IsViewUpdated gives members settings v x r w y → LacksMemory gives members v x
lacks-memory {A = A} {v = v} members r memory is key_of views events of after =
    let other = no-true _ (λ same. no-answer A r memory (is.same views of same)) in
    let left : v.generation + 1 ≢ 2 ^ 64 = λ full. no-last A r memory (is.refusals.exhausted views of other full) in
    let more : generation_after views + 1 ≢ 2 ^ 64 = λ full. left (ap (λ n. n + 1) of.generation ∙ full) in
    let there = no-false _ (λ gone. no-such A r memory
    (is.refusals.registry.missing key_of events after views of other left gone)) in (
      other,
      more,
      there,
      number-left _ (λ full. no-numbers A r memory
          (is.refusals.registry.lacking key_of events after views of other left there full)),
    )

module _ {R : Type 0} {gives : R → Member → Member → Type 0} where
  -- an update lengthens the registry's history, or is refused
  pub taken-later : {A E : Type 0} (r : Result A E) (v : ViewValue) (members : List Member) {x y : RegistryValue R} → IsFounded v
      → OnOk r ((key_of : Member → Member) (views : List ViewEvent) (events : List Event) → IsViewAfter views v
      → IsRegistryAfter gives key_of events x → IsRegistryAfter gives key_of (registry_updated key_of v.id members views events) y)
      → OnErr r (KeepsHistory gives x y) → IsRegistryOf gives x y
  taken-later (Ok a) v members p ok err =
      lengthened (λ key_of events. registry_updated key_of v.id members p.0 events)
      (λ key_of events. changed key_of v.id members p.0 events)
      (λ key_of events after. ok key_of p.0 events p.1 after)
  taken-later (Err a) v members p ok err = stays err

  module _ {D : Type 0} (finds : D → Found → Type 0) (site : ViewHandle D R) where
    module _ {members : List Member} {settings : List (Member × Bool)} {v w : ViewValue} {r : Result Bool Refusal}
        (found : Discovers finds site.discovery members settings) (old : IsState site.id v) (new : IsState site.id w)
        (taken : UnderRegistry gives site.registry.start (λ x y. IsTakenIn gives members settings v x r w y)) where
      under : (Call : List Member → List (Member × Bool) → ViewValue → RegistryValue R → ViewValue → RegistryValue R → Type 0)
          → ((x y : RegistryValue R) → IsTakenIn gives members settings v x r w y → Call members settings v x w y)
          → UnderBoth gives finds site Call
      under Call more = (
        members,
        (
          settings,
          (
            found,
            (
              taken.0,
              (
                taken.1.0,
                (taken.1.1.0, (taken.1.1.1.0, (v, (w, (old, (new, more taken.0 taken.1.0 taken.1.1.1.1)))))),
              ),
            ),
          ),
        ),
      )

      -- another membership, of which the caller's function answered this
      pub updated-other : {T : Type 0} (Answers : List Member → T → Type 0) (t : T) → r ≡ Ok true → Answers members t
          → UpdatedUnder gives finds site Answers (Some t)
      updated-other Answers t is answers =
          under (λ members settings v x w y. Takes gives members settings v x w y × Calls members Answers v (Some t))
          (λ x y told. (
            record { view = at-ok is told.updated.view; registry = at-ok is told.updated.registry },
            (λ views after. is-other true _ (IfOk-at_ok _ is told.changed views after) refl, answers),
          ))

      -- the same membership
      pub updated-same : {T : Type 0} (Answers : List Member → T → Type 0) → r ≡ Ok false → UpdatedUnder gives finds site Answers None
      updated-same Answers is =
          under (λ members settings v x w y. Takes gives members settings v x w y × Calls members Answers v None)
          (λ x y told. (
            record { view = at-ok is told.updated.view; registry = at-ok is told.updated.registry },
            λ views after. is-same false _ (IfOk-at_ok _ is told.changed views after) refl,
          ))

      kept : {x y : RegistryValue R} {e : Refusal} → r ≡ Err e → IsTakenIn gives members settings v x r w y → Keeps gives v x w y
      kept is told = record {
        view = at-err is told.updated.refusals.view_err;
        registry = at-err is told.updated.refusals.registry_err;
      }

      pub refused-for : (e : Refusal) → r ≡ Err e → RefusedFor gives finds site e
      refused-for e is = record {
        last = λ why. under (λ members settings v x w y. Keeps gives v x w y × HasLast v)
            (λ x y told. (
              kept is told,
              λ views after. ap (λ n. n + 1) (sym after.generation) ∙ told.updated.refusals.last (is ∙ ap Err why),
            ));
        unknown = λ why. under (λ members settings v x w y. Keeps gives v x w y × LacksView gives v x)
            (λ x y told. (kept is told, told.updated.refusals.registry.unknown (is ∙ ap Err why)));
        numbers = λ why. under (λ members settings v x w y. Keeps gives v x w y × LacksNumbers gives members v x)
            (λ x y told. (kept is told, told.updated.refusals.registry.numbers (is ∙ ap Err why)));
        memory = λ why. inr (under (λ members settings v x w y. Keeps gives v x w y × LacksMemory gives members v x)
            (λ x y told. (kept is told, lacks-memory members r (is ∙ ap Err why) told.updated)));
      }
