-- Laws that say more of an answer or of a history than its clause: what is served, who gets a job, which members there are.
use Rattle.std.proofs.Common.{arith, ◌≡◌, ◌≤◌, ◌+◌, ◌==◌, ◌||◌, ◌∙◌, ℕ, Bool, true, false, not, cond, max, nat_lt, List, [], ◌∷◌, refl, sym}
use Rattle.std.proofs.Common.{ap, ⊎_elim}
use Rattle.std.proofs.lemmas.Bool.{eq-eqb, ne_eqb}
use Rattle.std.proofs.lemmas.Bool.Decides.{eqb_tells}
use Rattle.lb_select_base.specs.Backends.{Member}
use Rattle.lb_rebuild_core.specs.SlotsHistory.{Granted, Failed, Published, Abandoned, SlotsEvent, Scheduled, Cancelled, At, History}
use Rattle.lb_rebuild_core.specs.SlotsHistory.{newest, members_of, is_cancelled, granted, served, order_members, Extra, nothing, flight}
use Rattle.lb_rebuild_core.specs.SlotsHistory.{lost, retired, taken_out, is_flight, is_extra, flight_number, extra, waits, due_moment}
use Rattle.lb_rebuild_core.specs.SlotsHistory.{cancelled, building, up_to_date, not_due, busy, job, ask_answer, IsPast, IsFaithful}
use Rattle.lb_rebuild_core.specs.Laws.{Bounded, RisesAt, ServesNewest, GetsJob, Tells, HasMembers}
use Rattle.lb_rebuild_core.proofs.Pasts.{under-way-fits, granted-newest, served-granted, flies, lt-false, not-below}

pub bounded : (h : History) → Bounded h
bounded h = omega (arith, served-granted h, granted-newest h)

pub rises : (e : SlotsEvent) (h : History) → IsPast (e ∷ h) → RisesAt e h
rises (At i (Published ended ms)) h p = flies (served h) (granted h) (extra h) p.1.0 (under-way-fits h p.0)
rises e h p = refl

grounded : (e : Extra) → is_flight e ≡ false → flight_number e ≡ 0
grounded nothing h = refl
grounded (flight n) h = absurd (cc)
grounded (lost n) h = refl
grounded (retired n) h = refl
grounded (taken_out n) h = refl

pub serves-newest : (h : History) → ServesNewest h
serves-newest h down quiet =
    let all : newest h ≤ max (served h) (flight_number (extra h)) = not-below (max (served h) (flight_number (extra h))) (newest h) quiet in
    let none : flight_number (extra h) ≡ 0 = grounded (extra h) down in
    let below : served h ≤ newest h = bounded h in
    omega arith

-- an answer over plain tests
all-pass : (ca fl w d ex : Bool) (m : ℕ) → ca ≡ false → fl ≡ false → w ≡ true → d ≡ false → ex ≡ false
    → cond ca cancelled (cond fl building (cond (not w) up_to_date (cond d (not_due m) (cond (false || ex) busy job)))) ≡ job
all-pass ca fl w d ex m a b c e f = rw (a, b, c, e, f) refl

no-flight : (e : Extra) → is_extra e ≡ false → is_flight e ≡ false
no-flight nothing h = refl
no-flight (flight n) h = absurd (cc)
no-flight (lost n) h = refl
no-flight (retired n) h = refl
no-flight (taken_out n) h = refl

pub gets-job : (h : History) (now : ℕ) → GetsJob h now
gets-job h now goes waiting due none =
    all-pass (is_cancelled h) (is_flight (extra h)) (waits h) (nat_lt now (due_moment h)) (is_extra (extra h)) (due_moment h)
    goes (no-flight (extra h) none) waiting (lt-false now (due_moment h) due) none

no-second : (a b : Bool) → (a || b) ≡ false → b ≡ false
no-second true b e = absurd (cc)
no-second false b e = e

tells-at : (h : History) (ca fl w d o : Bool) (out : Bool) → is_cancelled h ≡ ca → is_flight (extra h) ≡ fl → waits h ≡ w
    → (out || is_extra (extra h)) ≡ o
    → Tells h (cond ca cancelled (cond fl building (cond (not w) up_to_date (cond d (not_due (due_moment h)) (cond o busy job)))))
tells-at h true fl w d o out a b c e = a
tells-at h false true w d o out a b c e = b
tells-at h false false false d o out a b c e = (serves-newest h b c, b)
tells-at h false false true true o out a b c e = (refl, c)
tells-at h false false true false true out a b c e = c
tells-at h false false true false false out a b c e = (c, a, no-second out (is_extra (extra h)) e)

pub tells : (h : History) (out : Bool) (now : ℕ) → Tells h (ask_answer h out now)
tells h out now = tells-at h (is_cancelled h) (is_flight (extra h)) (waits h) (nat_lt now (due_moment h))
    (out || is_extra (extra h)) out refl refl refl refl

-- members
came-back : (g n : ℕ) (ms os : List Member) (h : History) → ms ≡ members_of g h → os ≡ members_of n h → cond (g == n) ms os ≡ members_of n h
came-back g n ms os h own old =
    ⊎_elim
    (λ t. rw (t.0) (own ∙ ap (λ (k : ℕ). members_of k h) t.1))
    (λ t. rw (t.0) old)
    (eqb_tells g n)

pub has-members : (h : History) → IsFaithful h → HasMembers h
has-members [] f = record { waiting = refl; under_way = refl; serving = refl }
has-members (Scheduled ms now ∷ h) f =
    let ih = has-members h f in
    let early : granted h ≤ newest h = granted-newest h in
    let before : served h ≤ granted h = served-granted h in
    record {
      waiting = sym (rw (eq-eqb (newest h + 1) (newest h + 1) refl) refl);
      under_way = rw (ne_eqb (newest h + 1) (granted h) (λ e. omega arith)) ih.under_way;
      serving = rw (ne_eqb (newest h + 1) (served h) (λ e. omega arith)) ih.serving;
    }
has-members (Cancelled ∷ h) f = let ih = has-members h f in record { waiting = ih.waiting; under_way = ih.under_way; serving = ih.serving }
has-members (At i (Granted now) ∷ h) f = let ih = has-members h f in record {
  waiting = ih.waiting;
  under_way = ih.waiting;
  serving = ih.serving;
}
has-members (At i (Failed now ms) ∷ h) f =
    let ih = has-members h f.0 in
    record {
      waiting = came-back (granted h) (newest h) ms (order_members h) h (f.1 ∙ ih.under_way) ih.waiting;
      under_way = ih.under_way;
      serving = ih.serving;
    }
has-members (At i (Published ended ms) ∷ h) f = let ih = has-members h f.0 in record {
  waiting = ih.waiting;
  under_way = ih.under_way;
  serving = f.1 ∙ ih.under_way;
}
has-members (At i (Abandoned ms) ∷ h) f =
    let ih = has-members h f.0 in
    record {
      waiting = came-back (granted h) (newest h) ms (order_members h) h (f.1 ∙ ih.under_way) ih.waiting;
      under_way = ih.under_way;
      serving = ih.serving;
    }
has-members (At i e ∷ h) f = let ih = has-members h f in record { waiting = ih.waiting; under_way = ih.under_way; serving = ih.serving }
