-- When the tasks of a schedule are next and due. Moments and frequencies are nanoseconds, of 128 bits.
use Rattle.std.specs.Prelude.{ℕ, ◌+◌, ◌-◌, ◌^◌, Bool, true, false, List, [], ◌∷◌, Option, Some, None, min, nat_le}

-- the moment that is later by so much; the last one of 128 bits where there is none
abbrev pub later : ℕ → ℕ → ℕ
later moment by = min (moment + by) (2 ^ 128 - 1)

-- when a task is next that was made then and was done in turns of these bases, the last one first. A task is absent, one-time, or has
-- a frequency.
abbrev pub next_of : Option (Option ℕ) → ℕ → List ℕ → Option ℕ
next_of None made bases = None
next_of (Some frequency) made [] = Some made
next_of (Some None) made (base ∷ bases) = None
next_of (Some (Some frequency)) made (base ∷ bases) = Some (later base frequency)

-- when a task is next that was done last in a turn of that base
abbrev pub after_finish : Option (Option ℕ) → ℕ → Option ℕ
after_finish None base = None
after_finish (Some None) base = None
after_finish (Some (Some frequency)) base = Some (later base frequency)

-- a schedule: its two tasks, and when they are next
pub record ScheduleValue : Type 0 where
  pub update : Option (Option ℕ)
  pub update_next : Option ℕ
  pub check : Option (Option ℕ)
  pub check_next : Option ℕ

abbrev pub schedule_value : Option (Option ℕ) → Option ℕ → Option (Option ℕ) → Option ℕ → ScheduleValue
schedule_value u un c cn = record { update = u; update_next = un; check = c; check_next = cn }

-- the schedule of these tasks that was made then, after they were done in turns of these bases
abbrev pub schedule_after : Option (Option ℕ) → Option (Option ℕ) → ℕ → List ℕ → List ℕ → ScheduleValue
schedule_after update check made updates checks =
    schedule_value update (next_of update made updates) check (next_of check made checks)

-- the schedule after its update, or its check, was done in a turn of that base
abbrev pub update_finished : ScheduleValue → ℕ → ScheduleValue
update_finished s base = schedule_value s.update (after_finish s.update base) s.check s.check_next

abbrev pub check_finished : ScheduleValue → ℕ → ScheduleValue
check_finished s base = schedule_value s.update s.update_next s.check (after_finish s.check base)

-- whether a next moment has come
abbrev pub due : Option ℕ → ℕ → Bool
due None now = false
due (Some moment) now = nat_le moment now

abbrev pub is_once : Option (Option ℕ) → Bool
is_once (Some None) = true
is_once (Some (Some frequency)) = false
is_once None = false

-- the least of the next moments
abbrev pub least_moment : Option ℕ → Option ℕ → Option ℕ
least_moment None check = check
least_moment (Some update) None = Some update
least_moment (Some update) (Some check) = Some (min update check)

abbrev pub no_moment : Option ℕ → Bool
no_moment None = true
no_moment (Some moment) = false

abbrev pub is_idle : ScheduleValue → Bool
is_idle s = no_moment (least_moment s.update_next s.check_next)

-- a moment that is there, else 4294967295 seconds later than now
abbrev pub moment_or_never : Option ℕ → ℕ → ℕ
moment_or_never None now = later now 4294967295000000000
moment_or_never (Some moment) now = moment

abbrev pub next_moment : ScheduleValue → ℕ → ℕ
next_moment s now = moment_or_never (least_moment s.update_next s.check_next) now
