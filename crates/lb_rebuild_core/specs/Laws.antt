-- What holds of every history of a group that can be.
use Rattle.std.specs.Prelude.{◌≡◌, ◌+◌, ◌≤◌, ◌<◌, ℕ, zero, suc, Bool, true, false, [], ◌∷◌}
use Rattle.lb_rebuild_core.specs.SlotsHistory.{Granted, Failed, Published, Destroyed, SlotsEvent, At, History, past_of, newest, members_of}
use Rattle.lb_rebuild_core.specs.SlotsHistory.{is_cancelled, granted, granted_members, served, served_members, order_members, is_under_way}
use Rattle.lb_rebuild_core.specs.SlotsHistory.{is_flight, is_extra, extra, waits, published, coalesced, superseded, due_moment, AskAnswer}
use Rattle.lb_rebuild_core.specs.SlotsHistory.{cancelled, building, up_to_date, not_due, busy, job, ask_answer}

abbrev pub number : Bool → ℕ
number true = 1
number false = 0

-- the ledger: each generation was published, coalesced or superseded, waits, or is in flight
abbrev pub Balanced : History → Type 0
Balanced h = newest h ≡ published h + coalesced h + superseded h + number (waits h) + number (is_flight (extra h))

-- how many jobs were granted, and how many of them ended: failed, or destroyed as a retired selector
abbrev pub grants : History → ℕ
grants [] = 0
grants (At i (Granted now) ∷ h) = grants h + 1
grants (e ∷ h) = grants h

abbrev pub endings : History → ℕ
endings [] = 0
endings (At i (Failed now ms) ∷ h) = endings h + 1
endings (At i Destroyed ∷ h) = endings h + 1
endings (e ∷ h) = endings h

-- in a slot, what was granted and has not ended is the one extra that is there: a flight, a lost flight or a retired selector
abbrev pub Accounted : History → Type 0
Accounted h = grants h ≡ endings h + number (is_extra (extra h))

-- the extras in n slots from the place i on
abbrev pub extras_from : ℕ → ℕ → History → ℕ
extras_from i zero h = 0
extras_from i (suc n) h = number (is_extra (extra (past_of i h))) + extras_from (i + 1) n h

-- nothing happened at a place from n on
abbrev pub IsWithin : ℕ → History → Type 0
IsWithin n [] = Unit {0}
IsWithin n (At i e ∷ h) = (i < n) × IsWithin n h
IsWithin n (e ∷ h) = IsWithin n h

-- the jobs of a group's slots, less those that ended, are the extras that are there
abbrev pub SlotsAccount : ℕ → History → Type 0
SlotsAccount n h = grants h ≡ endings h + extras_from 0 n h

-- a flight or a lost flight is above what is served, and not past the newest
abbrev pub FlightFits : History → Type 0
FlightFits h = (n : ℕ) → is_under_way n (extra h) ≡ true → (served h < n) × (n ≤ newest h)

-- what is served is never past the newest
abbrev pub Bounded : History → Type 0
Bounded h = served h ≤ newest h

-- an event leaves what is served, but a publication raises it
abbrev pub RisesAt : SlotsEvent → History → Type 0
RisesAt (At i (Published ended ms)) h = served h < served (At i (Published ended ms) ∷ h)
RisesAt e h = served (e ∷ h) ≡ served h

-- a slot that neither builds nor waits serves the newest generation
abbrev pub ServesNewest : History → Type 0
ServesNewest h = is_flight (extra h) ≡ false → waits h ≡ false → served h ≡ newest h

-- a slot that waits and is due, of a group that isn't cancelled, with no extra in it, gets a job at a free gate
abbrev pub GetsJob : History → ℕ → Type 0
GetsJob h now = is_cancelled h ≡ false → waits h ≡ true → due_moment h ≤ now → is_extra (extra h) ≡ false → ask_answer h false now ≡ job

-- what an answer says of the slot
abbrev pub Tells : History → AskAnswer → Type 0
Tells h cancelled = is_cancelled h ≡ true
Tells h building = is_flight (extra h) ≡ true
Tells h up_to_date = (served h ≡ newest h) × (is_flight (extra h) ≡ false)
Tells h (not_due m) = (m ≡ due_moment h) × (waits h ≡ true)
Tells h busy = waits h ≡ true
Tells h job = (waits h ≡ true) × (is_cancelled h ≡ false) × (is_extra (extra h) ≡ false)

-- where all that came back had the members of its job, each of these has the members of its generation
pub record HasMembers (h : History) : Type 0 where
  pub waiting : order_members h ≡ members_of (newest h) h
  pub under_way : granted_members h ≡ members_of (granted h) h
  pub serving : served_members h ≡ members_of (served h) h
