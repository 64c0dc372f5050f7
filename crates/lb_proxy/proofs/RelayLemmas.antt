-- The law of a connection, over every list of what can happen to it.
use Rattle.std.proofs.Common.{◌≡◌, ◌≢◌, ℕ, ◌+◌, ◌-◌, ◌<◌, ◌≤◌, true, false, List, [], ◌∷◌, ◌++◌, length, arith, refl, sym, ap, subst, ◌∙◌}
use Rattle.std.proofs.Common.{append_assoc, length-append}
use Rattle.std.proofs.lemmas.List.{append-nil}
use Rattle.lb_proxy.specs.declared.relay.Phase.TheVariants.{Open, Ending, Shut}
use Rattle.lb_proxy.specs.declared.relay.Side.{Side}
use Rattle.lb_proxy.specs.declared.relay.Side.TheVariants.{Client, Backend}
use Rattle.lb_proxy.specs.Relay.{FlowState, idle, Event, read, wrote, ended, shut, room_by, Step, Run, read_by, written_by, HasEnded}
use Rattle.lb_proxy.specs.Relay.{IsRelayed}
use Rattle.lb_proxy.specs.Relay.{RelayState, fresh, flow_of, Happening, from, failure, RelayRun, events_of, IsConnection}

-- what waited and what was read is what was written and what waits
ordered : (old : FlowState) (events : List Event) (new : FlowState) → Run old events new
    → old.pending ++ read_by events ≡ written_by events ++ new.pending
ordered old [] new run = append-nil old.pending ∙ ap (λ s. s.pending) (sym run)
ordered old (read bytes ∷ events) new run =
    let is : run.0.pending ≡ old.pending ++ bytes = ap (λ s. s.pending) run.1.2 in
    let rest : run.0.pending ++ read_by events ≡ written_by events ++ new.pending = ordered run.0 events new run.2 in
    rw append_assoc at (rw is at rest)
ordered old (wrote bytes ∷ events) new run =
    let rest : run.0.pending ++ read_by events ≡ written_by events ++ new.pending = ordered run.0 events new run.2 in
    ap (λ l. l ++ read_by events) run.1.1 ∙ simp append_assoc (ap (λ l. bytes ++ l) rest)
ordered old (ended ∷ events) new run =
    let is : run.0.pending ≡ old.pending = ap (λ s. s.pending) run.1.1 in
    ap (λ l. l ++ read_by events) (sym is) ∙ ordered run.0 events new run.2
ordered old (shut ∷ events) new run =
    let is : run.0.pending ≡ old.pending = ap (λ s. s.pending) run.1.1 in
    ap (λ l. l ++ read_by events) (sym is) ∙ ordered run.0 events new run.2

-- what waits and the room fit the buffer
abbrev pub Fits : FlowState → Type 0
Fits s = length s.pending + s.room ≤ 32768

fits_after : (pending bytes : List ℕ) (room : ℕ) → length (bytes ++ pending) + room ≤ 32768 → length pending + room_by pending room ≤ 32768
fits_after [] bytes room fits = omega arith
fits_after (x ∷ xs) bytes room fits = omega (arith, length-append bytes (x ∷ xs))

fits_read : (pending bytes : List ℕ) (room : ℕ) → length pending + room ≤ 32768 → length bytes ≤ room
    → length (pending ++ bytes) + (room - length bytes) ≤ 32768
fits_read pending bytes room fits within = omega (arith, length-append pending bytes)

fits_step : (old : FlowState) (event : Event) (new : FlowState) → Step old event new → Fits old → Fits new
fits_step old (read bytes) new step fits = subst Fits (sym step.2) (fits_read old.pending bytes old.room fits step.1)
fits_step old (wrote bytes) new step fits =
    subst (λ n. length new.pending + n ≤ 32768) (sym step.2)
    (fits_after new.pending bytes old.room (subst (λ l. length l + old.room ≤ 32768) step.1 fits))
fits_step old ended new step fits = subst Fits (sym step.1) fits
fits_step old shut new step fits = subst Fits (sym step.1) fits

fits_run : (old : FlowState) (events : List Event) (new : FlowState) → Run old events new → Fits old → Fits new
fits_run old [] new run fits = subst Fits (sym run) fits
fits_run old (event ∷ events) new run fits = fits_run run.0 events new run.2 (fits_step old event run.0 run.1 fits)

-- a source that has ended gives nothing more
closed_reads : (old : FlowState) (events : List Event) (new : FlowState) → Run old events new → old.phase ≢ Open → read_by events ≡ []
closed_reads old [] new run closed = refl
closed_reads old (read bytes ∷ events) new run closed = absurd (closed run.1.0.is_open)
closed_reads old (wrote bytes ∷ events) new run closed = closed_reads run.0 events new run.2 (λ e. closed (sym run.1.3 ∙ e))
closed_reads old (ended ∷ events) new run closed = absurd (closed run.1.0.is_open)
closed_reads old (shut ∷ events) new run closed =
    let is : run.0.phase ≡ Shut = ap (λ s. s.phase) run.1.1 in
    closed_reads run.0 events new run.2 (λ e. let never : Shut ≡ Open = sym is ∙ e in cc)

-- a run can be cut anywhere
run_split : (old : FlowState) (before after : List Event) (new : FlowState) → Run old (before ++ after) new
    → (mid : FlowState) × Run old before mid × Run mid after new
run_split old [] after new run = (old, refl, run)
run_split old (event ∷ before) after new run =
    let rest = run_split run.0 before after new run.2 in
    (rest.0, (run.0, run.1, rest.1), rest.2)

-- what was open and is not has ended in between
has_ended : (old : FlowState) (events : List Event) (new : FlowState) → Run old events new → old.phase ≡ Open → new.phase ≢ Open
    → HasEnded events
has_ended old [] new run was_open closed = closed (ap (λ s. s.phase) run ∙ was_open)
has_ended old (read bytes ∷ events) new run was_open closed = has_ended run.0 events new run.2 (ap (λ s. s.phase) run.1.2) closed
has_ended old (wrote bytes ∷ events) new run was_open closed = has_ended run.0 events new run.2 (run.1.3 ∙ was_open) closed
has_ended old (ended ∷ events) new run was_open closed = tt
has_ended old (shut ∷ events) new run was_open closed = let never : Open ≡ Ending = sym was_open ∙ run.1.0.is_ending in cc

-- nothing happens after the sink was ended
nothing_after : (old : FlowState) (events : List Event) (new : FlowState) → Run old events new → old.phase ≡ Shut → old.pending ≡ []
    → events ≡ []
nothing_after old [] new run told none = refl
nothing_after old (read bytes ∷ events) new run told none = let never : Shut ≡ Open = sym told ∙ run.1.0.is_open in cc
nothing_after old (wrote bytes ∷ events) new run told none =
    let never : 0 < length {A = ℕ} [] = subst (λ l. 0 < length l) none run.1.0 in absurd (omega arith)
nothing_after old (ended ∷ events) new run told none = let never : Shut ≡ Open = sym told ∙ run.1.0.is_open in cc
nothing_after old (shut ∷ events) new run told none = let never : Shut ≡ Ending = sym told ∙ run.1.0.is_ending in cc

-- the law of one direction
relayed : (events : List Event) (last : FlowState) → Run idle events last → IsRelayed events last
relayed events last run = record {
  ordered = ordered idle events last run;
  bounded = let fits : length last.pending + last.room ≤ 32768 = fits_run idle events last run (omega arith) in omega arith;
  after_end = λ before after is.
      let cut = run_split idle before (ended ∷ after) last (subst (λ es. Run idle es last) is run) in
      let at : cut.2.0.phase ≡ Ending = ap (λ s. s.phase) cut.2.1.1 in
      closed_reads cut.2.0 after last cut.2.2 (λ e. let never : Ending ≡ Open = sym at ∙ e in cc);
  ended_before = λ before after is.
      let cut = run_split idle before (shut ∷ after) last (subst (λ es. Run idle es last) is run) in
      has_ended idle before cut.0 cut.1 refl (λ e. let never : Ending ≡ Open = sym cut.2.1.0.is_ending ∙ e in cc);
  whole_before = λ before after is.
      let cut = run_split idle before (shut ∷ after) last (subst (λ es. Run idle es last) is run) in
      ordered idle before cut.0 cut.1 ∙ ap (λ l. written_by before ++ l) cut.2.1.0.is_written ∙ append-nil (written_by before);
  after_shut = λ before after is.
      let cut = run_split idle before (shut ∷ after) last (subst (λ es. Run idle es last) is run) in
      nothing_after cut.2.0 after last cut.2.2 (ap (λ s. s.phase) cut.2.1.1) (ap (λ s. s.pending) cut.2.1.1 ∙ cut.2.1.0.is_written);
}

-- a failure leaves both directions
kept_flow : (source : Side) (old new : RelayState) → new ≡ record old { failed = true } → flow_of source new ≡ flow_of source old
kept_flow Client old new is = ap (λ r. r.from_client) is
kept_flow Backend old new is = ap (λ r. r.from_backend) is

-- a run of the connection is one of each direction
direction : (source : Side) (old : RelayState) (happenings : List Happening) (new : RelayState) → RelayRun old happenings new
    → Run (flow_of source old) (events_of source happenings) (flow_of source new)
direction source old [] new run = ap (flow_of source) run
direction source old (failure ∷ happenings) new run =
    subst (λ s. Run s (events_of source happenings) (flow_of source new)) (kept_flow source old run.0 run.1.1)
    (direction source run.0 happenings new run.2)
direction Client old (from Client event ∷ happenings) new run =
    (run.0.from_client, run.1.2, direction Client run.0 happenings new run.2)
direction Backend old (from Backend event ∷ happenings) new run =
    (run.0.from_backend, run.1.2, direction Backend run.0 happenings new run.2)
direction Client old (from Backend event ∷ happenings) new run =
    subst (λ s. Run s (events_of Client happenings) (flow_of Client new)) run.1.3 (direction Client run.0 happenings new run.2)
direction Backend old (from Client event ∷ happenings) new run =
    subst (λ s. Run s (events_of Backend happenings) (flow_of Backend new)) run.1.3 (direction Backend run.0 happenings new run.2)

relay_split : (old : RelayState) (before after : List Happening) (new : RelayState) → RelayRun old (before ++ after) new
    → (mid : RelayState) × RelayRun old before mid × RelayRun mid after new
relay_split old [] after new run = (old, refl, run)
relay_split old (happening ∷ before) after new run =
    let rest = relay_split run.0 before after new run.2 in
    (rest.0, (run.0, run.1, rest.1), rest.2)

after_failed : (old : RelayState) (happenings : List Happening) (new : RelayState) → RelayRun old happenings new → old.failed ≡ true
    → happenings ≡ []
after_failed old [] new run failed = refl
after_failed old (from source event ∷ happenings) new run failed = let never : true ≡ false = sym failed ∙ run.1.0 in cc
after_failed old (failure ∷ happenings) new run failed = let never : true ≡ false = sym failed ∙ run.1.0 in cc

starts : (source : Side) (events : List Event) (last : FlowState) → Run (flow_of source fresh) events last → Run idle events last
starts Client events last run = run
starts Backend events last run = run

-- the law of a connection
pub connected : (happenings : List Happening) (last : RelayState) → RelayRun fresh happenings last → IsConnection happenings last
connected happenings last run = record {
  relayed = λ source. relayed (events_of source happenings) (flow_of source last)
      (starts source (events_of source happenings) (flow_of source last) (direction source fresh happenings last run));
  after_failure = λ before after is.
      let cut = relay_split fresh before (failure ∷ after) last (subst (λ hs. RelayRun fresh hs last) is run) in
      after_failed cut.2.0 after last cut.2.2 (ap (λ r. r.failed) cut.2.1.1);
}
