-- What holds of each copy of an answer in place.
use Rattle.std.specs.Prelude.{Option, Some, None, Result, Ok, Err}
use Rattle.std.specs.Borrow.{Bor}
use Rattle.std.proofs.Common.{sym, subst, inl, inr}
use Rattle.lb_select_base.specs.Backends.{Member}
use Rattle.lb_select_base.specs.declared.refusal.Refusal.{Refusal}
use Rattle.lb_select_base.specs.Copies.{IsCopied, AsCopied}

-- what holds of each copy holds of this one
pub copied_holds : (T : Result (Option Member) Refusal → Type 0) (found : Result (Option (Bor Member)) Refusal)
    (r : Result (Option Member) Refusal)
    → AsCopied T found → IsCopied found r → T r
copied_holds T (Ok (Some b)) r holds (inl is) = subst T (sym is) holds.0
copied_holds T (Ok (Some b)) r holds (inr is) = subst T (sym is) holds.1
copied_holds T (Ok None) r holds is = subst T (sym is) holds
copied_holds T (Err e) r holds is = subst T (sym is) holds

-- and what follows from it does too
pub copies_hold : (T U : Result (Option Member) Refusal → Type 0) → ((a : Result (Option Member) Refusal) → T a → U a)
    → (found : Result (Option (Bor Member)) Refusal) → AsCopied T found → AsCopied U found
copies_hold T U then (Ok (Some b)) holds = (then _ holds.0, then _ holds.1)
copies_hold T U then (Ok None) holds = then _ holds
copies_hold T U then (Err e) holds = then _ holds
