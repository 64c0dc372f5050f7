-- Answers in place, and what their copies may be.
use Rattle.std.specs.Prelude.{◌≡◌, ◌⊎◌, Option, Some, None, Result, Ok, Err}
use Rattle.std.specs.Borrow.{Bor}
use Rattle.lb_select_base.specs.declared.refusal.Refusal.{Refusal}
use Rattle.lb_select_base.specs.declared.refusal.Refusal.TheVariants.{OutOfMemory}
use Rattle.lb_select_base.specs.Backends.{Member}

-- what is answered, where what was found in place is copied: the copy may be refused for memory
abbrev pub IsCopied : Result (Option (Bor Member)) Refusal → Result (Option Member) Refusal → Type 0
IsCopied (Ok (Some b)) r = (r ≡ Ok (Some b.now)) ⊎ (r ≡ Err OutOfMemory)
IsCopied (Ok None) r = r ≡ Ok None
IsCopied (Err e) r = r ≡ Err e

-- T holds of each answer that a copy of what was found in place may give
abbrev pub AsCopied : (Result (Option Member) Refusal → Type 0) → Result (Option (Bor Member)) Refusal → Type 0
AsCopied T (Ok (Some b)) = T (Ok (Some b.now)) × T (Err OutOfMemory)
AsCopied T (Ok None) = T (Ok None)
AsCopied T (Err e) = T (Err e)
