-- What the words of a member and of its cell say of whether it is ready.
use Rattle.std.proofs.Common.{◌≡◌, ◌∙◌, ◌&&◌, ℕ, Bool, false, Option, Some, None, ap, subst, sym}
use Rattle.std.specs.Prelude.{IfSome}
use Rattle.std.specs.Arc.{arc_value}
use Rattle.std.specs.List.{list_any}
use Rattle.std.specs.declared.sync.Arc.{Arc}
use Rattle.lb_select_base.specs.Backends.{Member, same_member}
use Rattle.lb_health_view.specs.ViewEvents.{generation_after}
use Rattle.lb_threads_core.proofs.SameReadiness.{ready-of, unlisted}
use Rattle.lb_threads_core.specs.CellWords.{WasHealthy}
use Rattle.lb_balancer.specs.History.{BalancerValue, FlaggedIn, IsShownBy, JudgedBy, JudgedIn}
use Rattle.lb_balancer.specs.Kept.{AreWordsOf, GenerationValue}
use Rattle.lb_balancer.specs.Shown.{ShownValue}

module _ {D C R : Type 0} (gives : R → Member → Member → Type 0) where
  -- a member is ready where it is enabled and its cell healthy
  pub judged-of : (b : BalancerValue D C R) (n : ℕ) (m : Member) (c : ℕ) (enabled healthy ready : Bool) → FlaggedIn b n m c enabled
      → WasHealthy gives b.registry c healthy → ready ≡ (enabled && healthy) → JudgedIn gives b n m ready
  judged-of b n m c enabled healthy ready (s, (was, (served, has))) (x, (of, told)) is =
      subst (λ k. JudgedIn gives b n m k) (sym is) (
        s,
        (
          was,
          (
            served,
            (
              x,
              (
                of,
                λ key_of views events view registry.
                    ready-of key_of views events m c (generation_after views) enabled healthy (has views view)
                    (told key_of events registry),
              ),
            ),
          ),
        ),
      )

  -- what is found of this generation may be noted in its words
  pub flags-noted : {Z : Type 0} (b : BalancerValue D C R) (n : ℕ) (o : Option (Arc (GenerationValue D C R) Z)) (m : Member) (c : ℕ)
      (enabled : Bool) → AreWordsOf b n o → FlaggedIn b n m c enabled
      → IfSome o (λ r. FlaggedIn (arc_value r).balancer (arc_value r).number m c enabled)
  flags-noted b n (Some r) m c enabled of has =
      subst (λ (v : GenerationValue D C R). FlaggedIn v.balancer v.number m c enabled) (sym of) has
  flags-noted b n None m c enabled of has = tt

  pub health-noted : {Z : Type 0} (b : BalancerValue D C R) (n : ℕ) (o : Option (Arc (GenerationValue D C R) Z)) (c : ℕ) (healthy : Bool)
      → AreWordsOf b n o → WasHealthy gives b.registry c healthy
      → IfSome o (λ r. WasHealthy gives (arc_value r).balancer.registry c healthy)
  health-noted b n (Some r) c healthy of was =
      subst (λ (v : GenerationValue D C R). WasHealthy gives v.balancer.registry c healthy) (sym of) was
  health-noted b n None c healthy of was = tt

  -- a backend that isn't a member of what was shown wasn't ready then
  pub unlisted-then : (b : BalancerValue D C R) (s : ShownValue C) (m : Member) → IsShownBy gives b s
      → list_any (same_member m) s.members ≡ false → JudgedBy gives b m false
  unlisted-then b s m shown none = (
    s.generation,
    (
      shown.served,
      (
        shown.was_served,
        (
          shown.shows.generation,
          (
            shown.cells,
            (
              shown.was_registry,
              λ key_of views events view registry. (
                λ t. absurd (cc),
                λ ready.
                    absurd (unlisted key_of views events m
                    (ap (list_any (same_member m)) (sym (shown.shows.members views view)) ∙ none) ready),
              ),
            ),
          ),
        ),
      ),
    ),
  )
