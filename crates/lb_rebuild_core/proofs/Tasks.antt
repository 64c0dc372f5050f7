-- A task stays the slot's flight or lost flight until it comes back.
use Rattle.std.proofs.Common.{arith, ◌≡◌, ◌<◌, ◌∙◌, ℕ, true, ◌∷◌, refl, sym, ap, subst, slice_get}
use Rattle.std.proofs.lemmas.Bool.{eqb-true, eq-eqb}
use mathlib.Core.Logic.{dite}
use native.Mathlib.Decide.{ℕ_discrete}
use Rattle.lb_rebuild_core.specs.SlotsHistory.{SlotEvent, Granted, Failed, Published, Abandoned, WorkerLost, TakenOut, Destroyed, Entered}
use Rattle.lb_rebuild_core.specs.SlotsHistory.{Left, Drew, DrewRetired, SlotsEvent, Scheduled, Cancelled, At, History, past_of, newest}
use Rattle.lb_rebuild_core.specs.SlotsHistory.{granted, granted_members, served, Extra, nothing, flight, lost, retired, taken_out}
use Rattle.lb_rebuild_core.specs.SlotsHistory.{is_under_way, is_retired_of, is_taken_out, generation_of, extra, IsPast, IsSlotsHistory}
use Rattle.lb_rebuild_core.specs.Values.{Task}
use Rattle.lb_rebuild_core.specs.Stands.{Made}
use Rattle.lb_rebuild_core.specs.Laws.{FlightFits}
use Rattle.lb_rebuild_core.specs.Tasks.{IsTaskOf, TakesBack}
use Rattle.lb_rebuild_core.specs.SlotsCalls.{IsJob}
use Rattle.lb_rebuild_core.proofs.Pasts.{UnderWayFits, under-way-fits, is_up, granted-newest, newest-past, past-same, past-other}

-- what is under_way is neither retired nor taken out, and is no nothing
not-retired : (k n : ℕ) (e : Extra) → is_under_way k e ≡ true → is_retired_of n e ≡ true → ⊥
not-retired k n nothing a b = cc
not-retired k n (flight m) a b = cc
not-retired k n (lost m) a b = cc
not-retired k n (retired m) a b = cc
not-retired k n (taken_out m) a b = cc

not-out : (k : ℕ) (e : Extra) → is_under_way k e ≡ true → is_taken_out e ≡ true → ⊥
not-out k nothing a b = cc
not-out k (flight m) a b = cc
not-out k (lost m) a b = cc
not-out k (retired m) a b = cc
not-out k (taken_out m) a b = cc

not-nothing : (k : ℕ) (e : Extra) → is_under_way k e ≡ true → e ≡ nothing → ⊥
not-nothing k nothing a b = cc
not-nothing k (flight m) a b = cc
not-nothing k (lost m) a b = cc
not-nothing k (retired m) a b = cc
not-nothing k (taken_out m) a b = cc

is-granted : (s g k : ℕ) (e : Extra) → is_under_way k e ≡ true → UnderWayFits s g e → g ≡ k
is-granted s g k nothing up fits = absurd (cc)
is-granted s g k (flight m) up fits = sym fits.0 ∙ eqb-true m k up
is-granted s g k (lost m) up fits = sym fits.0 ∙ eqb-true m k up
is-granted s g k (retired m) up fits = absurd (cc)
is-granted s g k (taken_out m) up fits = absurd (cc)

pub flight-fits : (h : History) → IsPast h → FlightFits h
flight-fits h p n up =
    let same : granted h ≡ n = is-granted (served h) (granted h) n (extra h) up (under-way-fits h p) in
    let above : served h < granted h = is_up (served h) (granted h) (extra h)
    (subst (λ (k : ℕ). is_under_way k (extra h) ≡ true) (sym same) up) (under-way-fits h p) in
    (omega arith, omega (arith, same, granted-newest h))

-- in the slot's own past
stays-there : (k i : ℕ) (e : SlotEvent) (p : History) → IsPast (At i e ∷ p) → ¬ TakesBack i (At i e) → is_under_way k (extra p) ≡ true
    → (is_under_way k (extra (At i e ∷ p)) ≡ true) × (granted_members (At i e ∷ p) ≡ granted_members p)
stays-there k i (Granted now) p q back up = absurd (not-nothing k (extra p) up q.1.0)
stays-there k i (Failed now ms) p q back up = absurd (back refl)
stays-there k i (Published ended ms) p q back up = absurd (back refl)
stays-there k i (Abandoned ms) p q back up = absurd (back refl)
stays-there k i WorkerLost p q back up = (
  eq-eqb (granted p) k (is-granted (served p) (granted p) k (extra p) up (under-way-fits p q.0)),
  refl,
)
stays-there k i TakenOut p q back up = absurd (not-retired k (generation_of (extra p)) (extra p) up q.1.0)
stays-there k i Destroyed p q back up = absurd (not-out k (extra p) up q.1)
stays-there k i Entered p q back up = (up, refl)
stays-there k i (Left n) p q back up = (up, refl)
stays-there k i (Drew t) p q back up = (up, refl)
stays-there k i (DrewRetired t) p q back up = (up, refl)

module _ {C : Type 0} where
  -- a job is its slot's flight from its grant on
  pub goes-out : (made : Made C) (h : History) (slot now : ℕ) (j : Task C) → IsJob made h slot j
      → IsTaskOf made (At slot (Granted now) ∷ h) j
  goes-out made h slot now j is =
      let past : past_of j.slot (At slot (Granted now) ∷ h) ≡ At slot (Granted now) ∷ past_of slot h =
      subst (λ (m : ℕ). past_of m (At slot (Granted now) ∷ h) ≡ At slot (Granted now) ∷ past_of slot h) (sym is.place)
      (past-same slot (Granted now) h) in
      record {
        awaited = ap (λ (p : History). is_under_way j.generation (extra p)) past
            ∙ eq-eqb (newest (past_of slot h)) j.generation (newest-past slot h ∙ sym is.generation);
        config = ap (slice_get made.configs) is.place ∙ is.config;
        members = is.members ∙ sym (ap granted_members past);
      }

  pub stays : (made : Made C) (h : History) (j : Task C) (e : SlotsEvent) → IsSlotsHistory (e ∷ h) → IsTaskOf made h j
      → ¬ TakesBack j.slot e → IsTaskOf made (e ∷ h) j
  stays made h j (Scheduled ms now) all t back = record { awaited = t.awaited; config = t.config; members = t.members }
  stays made h j Cancelled all t back = record { awaited = t.awaited; config = t.config; members = t.members }
  stays made h j (At i e) all t back =
      dite (ℕ_discrete i j.slot)
      (λ at.
      let past : past_of j.slot (At i e ∷ h) ≡ At i e ∷ past_of j.slot h =
      subst (λ (m : ℕ). past_of j.slot (At m e ∷ h) ≡ At m e ∷ past_of j.slot h) (sym at) (past-same j.slot e h) in
      let own : IsPast (At i e ∷ past_of j.slot h) = subst (λ (p : History). IsPast p) past (all j.slot) in
      let away : ¬ TakesBack i (At i e) = subst (λ (m : ℕ). ¬ TakesBack m (At i e)) (sym at) back in
      let there = stays-there j.generation i e (past_of j.slot h) own away t.awaited in
      record {
        awaited = ap (λ (p : History). is_under_way j.generation (extra p)) past ∙ there.0;
        config = t.config;
        members = t.members ∙ sym (ap granted_members past ∙ there.1);
      })
      (λ apart.
      let past : past_of j.slot (At i e ∷ h) ≡ past_of j.slot h = past-other j.slot i e h apart in
      record {
        awaited = ap (λ (p : History). is_under_way j.generation (extra p)) past ∙ t.awaited;
        config = t.config;
        members = t.members ∙ sym (ap granted_members past);
      })
