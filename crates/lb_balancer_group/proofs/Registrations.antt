-- When a group is refused for the want of numbers, or of memory.
use Rattle.std.proofs.Common.{◌≡◌, ◌∙◌, ◌⊎◌, inl, inr, List, Option, Some, None, Result, Err, ap, sym}
use Rattle.std.proofs.lemmas.Option.{none-some}
use Rattle.lb_select_base.specs.Refusals.{least, memory_apart}
use Rattle.lb_select_base.specs.declared.refusal.Refusal.{Refusal}
use Rattle.lb_select_base.specs.declared.refusal.Refusal.TheVariants.{NumbersExhausted, OutOfMemory}
use Rattle.lb_rebuild_core.proofs.LeastApart.{least-apart}
use Rattle.lb_threads_core.proofs.Registrations.{apart-from, no-cause}
use Rattle.lb_balancer_group.specs.declared.gate_refusal.GateRefusal.{GateRefusal}
use Rattle.lb_balancer_group.specs.declared.gate_refusal.GateRefusal.TheVariants.{NotMade}

-- then there is no cause
pub none-of : {cause : Option Refusal} {e : Refusal} → (cause ≡ Some e) ⊎ ((cause ≡ None) × (e ≡ NumbersExhausted))
    → memory_apart cause ≡ None → e ≡ NumbersExhausted → cause ≡ None
none-of {cause = cause} (inl is) apart numbers = absurd (no-cause cause apart (is ∙ ap Some numbers))
none-of (inr (is, _)) apart numbers = is

-- what is found before memory is asked for isn't the want of memory
pub no-lack : (causes : List (Option Refusal)) {e : Refusal} → (least causes ≡ Some e) ⊎ ((least causes ≡ None) × (e ≡ NumbersExhausted))
    → memory_apart (least causes) ≡ None → e ≡ OutOfMemory → ⊥
no-lack causes {e = e} (inl is) apart memory = absurd (none-some e (sym apart ∙ least-apart causes ∙ is))
no-lack causes {e = e} (inr (_, numbers)) apart memory = apart-from e memory numbers

pub same-refusal : (A : Type 0) (e f : Refusal) → (let r : Result A GateRefusal = Err (NotMade e) in r ≡ Err (NotMade f)) → e ≡ f
same-refusal A e f is = cc
