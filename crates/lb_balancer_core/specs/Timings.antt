-- Readings of a clock, and the spans between them.
use Rattle.std.specs.Prelude.{◌≡◌, ◌-◌, ℕ, List, [], ◌∷◌, Option, Some, None}
use Rattle.lb_rebuild_core.specs.declared.answers.Timing.{Timing}
use Rattle.lb_balancer_core.specs.declared.timings.SelectorUpdateTimings.{SelectorUpdateTimings}
use Rattle.lb_balancer_core.specs.declared.timings.UpdateTimings.{UpdateTimings}

-- the clock went from s to t by exactly these readings, in order
abbrev pub Reads : {K : Type 0} → (K → ℕ → K → Type 0) → K → List ℕ → K → Type 0
Reads reads s [] t = s ≡ t
Reads {K} reads s (m ∷ ms) t = (u : K) × reads s m u × Reads reads u ms t

-- The timing of an update by the moments that it read: at its start and its end, and where it built a selector also before and
-- after the build.
abbrev pub update_timing : List ℕ → Option UpdateTimings
update_timing (start ∷ end ∷ []) = Some (record { discovery_duration = end - start; build_duration = 0 })
update_timing (start ∷ before ∷ after ∷ end ∷ []) =
    Some (record { discovery_duration = end - start - (after - before); build_duration = after - before })
update_timing ms = None

-- the timing of a slot's last publication
abbrev pub selector_timings : Timing → SelectorUpdateTimings
selector_timings t = record { generation = t.generation; queue_duration = t.queue; build_duration = t.build }

-- the timing of a slot's last publication where it is there: none before the first, and none where no such slot is there
abbrev pub last_timing : Option (Option Timing) → Option SelectorUpdateTimings
last_timing (Some (Some t)) = Some (selector_timings t)
last_timing (Some None) = None
last_timing None = None
