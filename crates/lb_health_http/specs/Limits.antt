-- Limits in nanoseconds, each of which may be missing.
use Rattle.std.specs.Prelude.{ℕ, ◌-◌, min, Option, None, Some}
use Rattle.std.specs.declared.time.Instant.{Instant}
use Rattle.std.specs.Time.{instant_nanos}
use Rattle.lb_health_http.specs.declared.deadline.Deadline.{Deadline}

-- the smaller of the two
abbrev pub least_limit : Option ℕ → Option ℕ → Option ℕ
least_limit None other = other
least_limit (Some one) None = Some one
least_limit (Some one) (Some other) = Some (min one other)

-- how many nanoseconds of its limit a check has left at that moment
abbrev pub left_at : Deadline → Instant → ℕ
left_at d now = d.limit - (instant_nanos now - instant_nanos d.start)
