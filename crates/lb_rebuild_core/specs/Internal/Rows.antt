-- Worked rows of builds, failures, lost workers, cancellation, timing and delays, as equations that compute.
use Rattle.std.specs.Prelude.{◌≡◌, true, false, List, [], ◌∷◌, map, Some, None, refl}
use Rattle.lb_select_base.specs.Backends.{Member}
use Rattle.lb_rebuild_core.specs.SlotsHistory.{Granted, Failed, Published, Abandoned, WorkerLost, TakenOut, Destroyed, Entered, Left}
use Rattle.lb_rebuild_core.specs.SlotsHistory.{Drew, DrewRetired, Scheduled, drawn, drawn_retired}
use Rattle.lb_rebuild_core.specs.SlotsHistory.{Cancelled, At, History, past_of, served, extra, flight, waits, readers, retry_delay, timing}
use Rattle.lb_rebuild_core.specs.SlotsHistory.{cancelled, building, not_due, busy, job, ask_answer}
use Rattle.lb_rebuild_core.specs.Stands.{counts_after}

-- the nine delays after failed builds of one generation, in milliseconds
delays : map (λ k. retry_delay k) (1 ∷ 2 ∷ 3 ∷ 4 ∷ 5 ∷ 6 ∷ 7 ∷ 8 ∷ 9 ∷ [])
    ≡ 10000000 ∷ 20000000 ∷ 40000000 ∷ 80000000 ∷ 160000000 ∷ 320000000 ∷ 640000000 ∷ 1000000000 ∷ 1000000000 ∷ []
delays = refl

module _ (a b d : List Member) where
  -- two groups at one gate: each slot is described by its own group's history, and a gate whose permit is out is busy
  granted-first : ask_answer (past_of 0 (Scheduled a 0 ∷ [])) false 0 ≡ job
  granted-first = refl

  other-waits : ask_answer (past_of 0 (Scheduled b 0 ∷ [])) true 6 ≡ busy
  other-waits = refl

  still-read : readers 0 (At 0 (Published 5 a) ∷ At 0 Entered ∷ At 0 (Granted 0) ∷ Scheduled a 0 ∷ []) ≡ 1
  still-read = refl

  left-empty : readers 0 (At 0 (Left 0) ∷ At 0 (Published 5 a) ∷ At 0 Entered ∷ At 0 (Granted 0) ∷ Scheduled a 0 ∷ []) ≡ 0
  left-empty = refl

  -- a retired selector keeps the counter that it had while it was served, and what its successor draws leaves it there
  abbrev drawn-twice : History
  drawn-twice = At 0 (Published 5 a) ∷ At 0 (Drew 2) ∷ At 0 (Granted 0) ∷ Scheduled a 0 ∷ []

  starts-again : drawn drawn-twice ≡ 0
  starts-again = refl

  goes-on : drawn_retired (At 0 (Drew 1) ∷ drawn-twice) ≡ 2
  goes-on = refl

  each-its-own : drawn (At 0 (DrewRetired 3) ∷ At 0 (Drew 1) ∷ drawn-twice) ≡ 1
  each-its-own = refl

  took-five :
      timing (At 0 (Published 5 a) ∷ At 0 Entered ∷ At 0 (Granted 0) ∷ Scheduled a 0 ∷ [])
      ≡ Some (record { generation = 1; queue = 0; build = 5 })
  took-five = refl

  -- a build of an old generation fails after two newer memberships; the next job is of the newest one
  failed-old : ask_answer (At 0 (Failed 3 a) ∷ Scheduled d 2 ∷ Scheduled b 1 ∷ At 0 (Granted 0) ∷ Scheduled a 0 ∷ []) false 3 ≡ job
  failed-old = refl

  abbrev replaced : History
  replaced = At 0 (Granted 3) ∷ At 0 (Failed 3 a) ∷ Scheduled d 2 ∷ Scheduled b 1 ∷ At 0 (Granted 0) ∷ Scheduled a 0 ∷ []

  newest-then : extra replaced ≡ flight 3
  newest-then = refl

  counted-then : counts_after (At 0 (Published 4 d) ∷ replaced) ≡ record { published = 1; coalesced = 1; superseded = 1; failed = 1 }
  counted-then = refl

  timed-then : timing (At 0 (Published 4 d) ∷ replaced) ≡ Some (record { generation = 3; queue = 1; build = 1 })
  timed-then = refl

  -- a failed build is due again after ten milliseconds; a new membership is due at once
  waits-ten : ask_answer (At 0 (Failed 0 a) ∷ At 0 (Granted 0) ∷ Scheduled a 0 ∷ []) false 9000000 ≡ not_due 10000000
  waits-ten = refl

  due-then : ask_answer (At 0 (Failed 0 a) ∷ At 0 (Granted 0) ∷ Scheduled a 0 ∷ []) false 10000000 ≡ job
  due-then = refl

  new-at-once : ask_answer (Scheduled b 9000000 ∷ At 0 (Failed 0 a) ∷ At 0 (Granted 0) ∷ Scheduled a 0 ∷ []) false 9000000 ≡ job
  new-at-once = refl

  -- a group that is cancelled while it builds retires what was built, and answers no ask any more
  stopped :
      ask_answer (At 0 Destroyed ∷ At 0 TakenOut ∷ At 0 (Abandoned a) ∷ Cancelled ∷ At 0 (Granted 0) ∷ Scheduled a 0 ∷ []) false 1
      ≡ cancelled
  stopped = refl

  stopped-counts :
      counts_after (At 0 Destroyed ∷ At 0 TakenOut ∷ At 0 (Abandoned a) ∷ Cancelled ∷ At 0 (Granted 0) ∷ Scheduled a 0 ∷ [])
      ≡ record { published = 0; coalesced = 0; superseded = 0; failed = 0 }
  stopped-counts = refl

  stopped-waits : waits (At 0 Destroyed ∷ At 0 TakenOut ∷ At 0 (Abandoned a) ∷ Cancelled ∷ At 0 (Granted 0) ∷ Scheduled a 0 ∷ []) ≡ true
  stopped-waits = refl

  -- a lost worker keeps its slot busy until its selector is destroyed; nothing is served
  lost-busy : ask_answer (At 0 WorkerLost ∷ At 0 (Granted 0) ∷ Scheduled a 0 ∷ []) false 1 ≡ busy
  lost-busy = refl

  lost-unserved : served (At 0 (Abandoned a) ∷ At 0 WorkerLost ∷ At 0 (Granted 0) ∷ Scheduled a 0 ∷ []) ≡ 0
  lost-unserved = refl

  lost-again :
      ask_answer (At 0 Destroyed ∷ At 0 TakenOut ∷ At 0 (Abandoned a) ∷ At 0 WorkerLost ∷ At 0 (Granted 0) ∷ Scheduled a 0 ∷ []) false 3
      ≡ job
  lost-again = refl

  -- an abandoned selector keeps its slot busy until it is destroyed, and then its generation is built again
  building-first : ask_answer (At 0 (Granted 0) ∷ Scheduled a 0 ∷ []) false 0 ≡ building
  building-first = refl

  untimed : timing (At 0 (Abandoned a) ∷ At 0 (Granted 0) ∷ Scheduled a 0 ∷ []) ≡ None
  untimed = refl

  abandoned-busy : ask_answer (At 0 (Abandoned a) ∷ At 0 (Granted 0) ∷ Scheduled a 0 ∷ []) false 1 ≡ busy
  abandoned-busy = refl

  built-again : ask_answer (At 0 Destroyed ∷ At 0 TakenOut ∷ At 0 (Abandoned a) ∷ At 0 (Granted 0) ∷ Scheduled a 0 ∷ []) false 1 ≡ job
  built-again = refl

  -- two memberships that a waiting slot never asked for are coalesced
  never-asked :
      counts_after (Scheduled d 3 ∷ Scheduled b 2 ∷ Scheduled a 0 ∷ [])
      ≡ record { published = 0; coalesced = 2; superseded = 0; failed = 0 }
  never-asked = refl

  -- a lost job that fails is counted, but not as superseded twice; its generation is not the newest any more
  abbrev lost-failed : History
  lost-failed = At 0 (Failed 2 a) ∷ Scheduled b 1 ∷ At 0 WorkerLost ∷ At 0 (Granted 0) ∷ Scheduled a 0 ∷ []

  lost-fails : counts_after lost-failed ≡ record { published = 0; coalesced = 1; superseded = 0; failed = 1 }
  lost-fails = refl

  -- a job that fails in a cancelled group is counted too
  stopped-fails :
      counts_after (At 0 (Failed 4 b) ∷ Cancelled ∷ At 0 (Granted 3) ∷ lost-failed)
      ≡ record { published = 0; coalesced = 1; superseded = 0; failed = 2 }
  stopped-fails = refl
