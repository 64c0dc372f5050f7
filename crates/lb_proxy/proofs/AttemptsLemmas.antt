-- The law of attempts, over every list of events.
use Rattle.std.proofs.Common.{◌≡◌, ◌<◌, ◌||◌, Bool, true, false, List, [], ◌∷◌, ◌++◌, length, nat_lt, if◌then◌else◌, arith, refl}
use Rattle.std.proofs.Common.{length-append}
use Rattle.std.specs.List.{AllByRecursion}
use Rattle.std.proofs.lemmas.Bool.Decides.{nat_tests}
use Rattle.lb_select_base.specs.Backends.{Member, same_member}
use Rattle.lb_proxy.specs.declared.attempts.Next.{Next}
use Rattle.lb_proxy.specs.declared.attempts.Next.TheVariants.{Select, Connect, Relay, Close}
use Rattle.lb_proxy.specs.declared.attempts.AttemptEvent.{AttemptEvent}
use Rattle.lb_proxy.specs.declared.attempts.AttemptEvent.TheVariants.{Selected, NoneReady, Refused, Connected}
use Rattle.lb_proxy.specs.Attempts.{Attempt, start, after, after_all, was_tried, AreDistinct, IsFair}

neither : (a b : Bool) → (a || b) ≡ false → (a ≡ false) × (b ≡ false)
neither true b is = cc
neither false b is = (refl, is)

apart_more : (x backend : Member) (xs : List Member) → AllByRecursion (λ other. same_member x other ≡ false) xs
    → same_member x backend ≡ false → AllByRecursion (λ other. same_member x other ≡ false) (xs ++ backend ∷ [])
apart_more x backend [] apart this = (this, tt)
apart_more x backend (y ∷ xs) apart this = (apart.0, apart_more x backend xs apart.1 this)

-- a backend of another identity than each of them comes behind them
distinct_more : (xs : List Member) (backend : Member) → AreDistinct xs → was_tried xs backend ≡ false → AreDistinct (xs ++ backend ∷ [])
distinct_more [] backend distinct new = (tt, tt)
distinct_more (x ∷ xs) backend distinct new =
    let other = neither (same_member x backend) (was_tried xs backend) new in
    (apart_more x backend xs distinct.0 other.0, distinct_more xs backend distinct.1 other.1)

-- a selection is asked for only before the third attempt
pub record IsReached (a : Attempt) : Type 0 where
  pub fair : IsFair a
  pub room : a.next ≡ Select → length a.tried < 3

reached_by : (next : Next) (tried : List Member) → IsFair (record { tried = tried; next = next }) → (next ≡ Select → length tried < 3)
    → IsReached (record { tried = tried; next = next })
reached_by next tried fair room = record { fair = fair; room = room }

-- the choice of a selection
selected_reached : (is : Bool) (tried : List Member) (backend : Member) → was_tried tried backend ≡ is
    → IsReached (record { tried = tried; next = Select })
    → IsReached (if is then record { tried = tried; next = Close } else record { tried = tried ++ backend ∷ []; next = Connect })
selected_reached true tried backend is r = record {
  fair = record { few = r.fair.few; distinct = r.fair.distinct };
  room = λ e. cc;
}
selected_reached false tried backend is r = record {
  fair = record {
    few = let room : length tried < 3 = r.room refl in omega (arith, length-append tried (backend ∷ []));
    distinct = distinct_more tried backend r.fair.distinct is;
  };
  room = λ e. cc;
}

less_of : (n : _) → nat_lt n 3 ≡ true → n < 3
less_of n is = grind (arith, nat_tests)

refused_reached : (is : Bool) (tried : List Member) → nat_lt (length tried) 3 ≡ is → IsFair (record { tried = tried; next = Connect })
    → IsReached (record { tried = tried; next = if is then Select else Close })
refused_reached true tried is fair = record {
  fair = record { few = fair.few; distinct = fair.distinct };
  room = λ e. less_of (length tried) is;
}
refused_reached false tried is fair = record {
  fair = record { few = fair.few; distinct = fair.distinct };
  room = λ e. cc;
}

-- one event keeps it
step_reached : (next : Next) (tried : List Member) (event : AttemptEvent) → IsReached (record { tried = tried; next = next })
    → IsReached (after (record { tried = tried; next = next }) event)
step_reached Select tried (Selected backend) r = selected_reached (was_tried tried backend) tried backend refl r
step_reached Select tried NoneReady r = record {
  fair = record { few = r.fair.few; distinct = r.fair.distinct };
  room = λ e. cc;
}
step_reached Select tried Refused r = r
step_reached Select tried Connected r = r
step_reached Connect tried (Selected backend) r = r
step_reached Connect tried NoneReady r = r
step_reached Connect tried Refused r = refused_reached (nat_lt (length tried) 3) tried refl r.fair
step_reached Connect tried Connected r = record {
  fair = record { few = r.fair.few; distinct = r.fair.distinct };
  room = λ e. cc;
}
step_reached Relay tried event r = r
step_reached Close tried event r = r

all_reached : (a : Attempt) (events : List AttemptEvent) → IsReached a → IsReached (after_all a events)
all_reached a [] r = r
all_reached a (event ∷ events) r = all_reached (after a event) events (step_reached a.next a.tried event r)

pub fair_attempts : (events : List AttemptEvent) → IsFair (after_all start events)
fair_attempts events =
    (all_reached start events (record { fair = record { few = omega arith; distinct = tt }; room = λ e. omega arith })).fair
