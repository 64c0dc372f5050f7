-- What the selectors of a world mean: their walks, why a build of one is refused, and whether their walks draw random words.
use Rattle.std.specs.Prelude.{ℕ, Bool, List, Option}
use Rattle.lb_select_base.specs.Backends.{Member}
use Rattle.lb_select_base.specs.Draws.{Draw}
use Rattle.lb_select_base.specs.declared.refusal.Refusal.{Refusal}
use Rattle.lb_select_base.specs.declared.walk.BackendSelection.{Ghosts}

-- each of a set and a configuration: the walks for a key, the least cause to refuse a build, whether random words may be drawn
pub record Meaning (C : Type 0) : Type 1 where
  pub walks : List Member → C → List ℕ → List Draw → List Member → Bool → Type 0
  pub refusal : List Member → C → Option Refusal
  pub random : List Member → C → Bool

-- the meaning of a type of selectors, by the members of its trait
abbrev pub meaning_of : {S C W : Type 0} → Ghosts S C W → Meaning C
meaning_of s = record { walks = s.walks; refusal = s.refusal; random = s.may_draw_random }
