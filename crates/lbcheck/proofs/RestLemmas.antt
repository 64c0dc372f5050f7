-- Lemmas on bytes that are counted behind what a check read.
use Rattle.std.proofs.Common.{ℕ, ◌+◌, Bool, true, List, [], ◌++◌, Result, Ok, Err, refl, ap, ◌∙◌, sym, append_assoc, length-append, arith}
use Rattle.lb_stream.specs.Stream.{Takes}
use Rattle.lb_health_core.specs.declared.error.CheckError.{CheckError}
use Rattle.lb_health_core.specs.declared.error.CheckError.TheVariants.{Write, Read, OutOfMemory}
use Rattle.lb_health_http.specs.Check.{IsOkOrFailed}

pub takes_none : (s : List ℕ) → Takes 0 s s
takes_none s = record { front = []; count = refl; is = refl }

pub takes_more : (n m : ℕ) (s t u : List ℕ) → Takes n s t → Takes m t u → Takes (n + m) s u
takes_more n m s t u p q = record {
  front = p.front ++ q.front;
  count = omega (arith, length-append p.front q.front, p.count, q.count);
  is = p.is ∙ ap (λ (l : List ℕ). p.front ++ l) q.is ∙ sym (append_assoc p.front q.front u);
}

-- who knows which device failed knows that one may have
pub either_failed : (reader writer : Bool) (r : Result Unit CheckError) → IsOkOrFailed reader writer r → IsOkOrFailed true true r
either_failed reader writer (Ok _) p = tt
either_failed reader writer (Err Read) p = refl
either_failed reader writer (Err Write) p = refl
either_failed reader writer (Err OutOfMemory) p = tt
either_failed reader writer (Err e) p = absurd p
