-- The least of causes, each taken apart from memory, is never the want of memory.
use Rattle.std.proofs.Common.{◌≡◌, List, [], ◌∷◌, nat_lt, refl, Option, Some, None}
use Rattle.std.proofs.lemmas.Bool.{cond_both}
use Rattle.lb_select_base.specs.Refusals.{earlier, least, memory_apart, refusal_number}
use Rattle.lb_select_base.specs.declared.refusal.Refusal.{Refusal}
use Rattle.lb_select_base.specs.declared.refusal.Refusal.TheVariants.{OutOfMemory}

apart-earlier : (p q : Option Refusal) → memory_apart p ≡ p → memory_apart q ≡ q → memory_apart (earlier p q) ≡ earlier p q
apart-earlier None q a b = b
apart-earlier (Some e) None a b = a
apart-earlier (Some e) (Some f) a b =
    cond_both (nat_lt (refusal_number f) (refusal_number e)) (Some f) (Some e) (λ o. memory_apart o ≡ o) (λ t. b) (λ t. a)

apart-twice : (c : Option Refusal) → memory_apart (memory_apart c) ≡ memory_apart c
apart-twice None = refl
apart-twice (Some OutOfMemory) = refl
apart-twice (Some e) = refl

pub least-apart : (cs : List (Option Refusal)) → memory_apart (least cs) ≡ least cs
least-apart [] = refl
least-apart (c ∷ cs) = apart-earlier (memory_apart c) (least cs) (apart-twice c) (least-apart cs)
