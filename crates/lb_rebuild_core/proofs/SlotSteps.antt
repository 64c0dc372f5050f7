-- One equation for each event at a slot: what its call makes of the slot after a past is the slot after the past with the event.
use Rattle.std.proofs.Common.{◌≡◌, ◌<◌, ◌≤◌, ◌+◌, ◌-◌, ◌^◌, ◌==◌, ◌&&◌, ◌||◌, ◌⊎◌, ◌∙◌, ℕ, Bool, true, false, not, cond, min, max, nat_lt}
use Rattle.std.proofs.Common.{List, ◌∷◌, Option, Some, None, is_none, refl, sym, ap, ⊎_elim, inl, inr, arith}
use Rattle.std.proofs.lemmas.Bool.{ltb-true, lt-ltb, eqb-true, eq-eqb, ne_eqb}
use Rattle.std.proofs.lemmas.Bool.Decides.{eqb_tells}
use Rattle.lb_select_base.specs.Backends.{Member}
use Rattle.lb_rebuild_core.specs.Gate.{GateId, GroupId}
use Rattle.lb_rebuild_core.specs.declared.answers.Counts.{Counts}
use Rattle.lb_rebuild_core.specs.declared.answers.Timing.{Timing}
use Rattle.lb_rebuild_core.specs.SlotsHistory.{Granted, Failed, Published, Abandoned, WorkerLost, TakenOut, Destroyed, Entered, Left, Drew}
use Rattle.lb_rebuild_core.specs.SlotsHistory.{DrewRetired, drawn_retired}
use Rattle.lb_rebuild_core.specs.SlotsHistory.{SlotsEvent, Scheduled, Cancelled, At, History, newest, scheduled_at, is_cancelled, granted}
use Rattle.lb_rebuild_core.specs.SlotsHistory.{served, order_members, Extra, nothing, flight, lost, retired, taken_out, is_flight}
use Rattle.lb_rebuild_core.specs.SlotsHistory.{is_extra, is_under_way, is_retired_of, is_lost_of, is_taken_out, flight_number}
use Rattle.lb_rebuild_core.specs.SlotsHistory.{generation_of, extra, waits, readers, published, coalesced, is_outdated, superseded}
use Rattle.lb_rebuild_core.specs.SlotsHistory.{all_failures, failures, failed_at, later, due_after, AskAnswer, cancelled, building}
use Rattle.lb_rebuild_core.specs.SlotsHistory.{up_to_date, not_due, busy, job, ask_answer, IsPast}
use Rattle.lb_rebuild_core.specs.Values.{OrderValue, ServingValue, SlotValue}
use Rattle.lb_rebuild_core.specs.Stands.{left_readers, left_tickets, permit_in, slot_after}
use Rattle.lb_rebuild_core.specs.SlotCalls.{more, ordered_slot, slot_answer, asked_slot, failed_slot, published_slot, abandoned_slot}
use Rattle.lb_rebuild_core.specs.SlotCalls.{lost_slot, entered_slot, readers_at, left_slot, taken_slot, destroyed_slot, drawn_slot}
use Rattle.lb_rebuild_core.specs.SlotCalls.{left_drawn_slot}
use Rattle.lb_rebuild_core.specs.Laws.{Balanced}
use Rattle.lb_rebuild_core.proofs.Delays.{capped_delay}
use Rattle.lb_rebuild_core.proofs.Pasts.{UnderWayFits, under-way-fits, flies, is_up, granted-newest, served-granted, unread, unfailed}
use Rattle.lb_rebuild_core.proofs.Pasts.{read_nowhere, lt-false, not-below}
use Rattle.lb_rebuild_core.proofs.Ledger.{balanced}

-- slots of equal parts are equal
same-parts : {C : Type 0} (c : C) {s t : ServingValue C} {r q : ℕ} {w v : Option (OrderValue C)} {e f : Extra} {l k lt kt : ℕ}
    {p o : Option GateId} {a b d g m n u z : ℕ} {x y : Counts} {i j : Option Timing}
    → s ≡ t → r ≡ q → w ≡ v → e ≡ f → l ≡ k → lt ≡ kt → p ≡ o → a ≡ b → d ≡ g → m ≡ n → u ≡ z → x ≡ y → i ≡ j
    → (let left : SlotValue C = record {
      serving = s;
      readers = r;
      config = c;
      waiting = w;
      extra = e;
      left_in = l;
      left_tickets = lt;
      permit = p;
      asked = a;
      scheduled = d;
      failures = m;
      failed_at = u;
      counts = x;
      timing = i;
    } in
    let right : SlotValue C = record {
      serving = t;
      readers = q;
      config = c;
      waiting = v;
      extra = f;
      left_in = k;
      left_tickets = kt;
      permit = o;
      asked = b;
      scheduled = g;
      failures = n;
      failed_at = z;
      counts = y;
      timing = j;
    } in
    left ≡ right)
same-parts c h1 h2 h3 h4 h5 h6 h7 h8 h9 h10 h11 h12 h13 = cc

same-counts : (p q c d u v f g : ℕ) → p ≡ q → c ≡ d → u ≡ v → f ≡ g
    → (let left : Counts = record { published = p; coalesced = c; superseded = u; failed = f } in
    let right : Counts = record { published = q; coalesced = d; superseded = v; failed = g } in
    left ≡ right)
same-counts p q c d u v f g h1 h2 h3 h4 = cc

-- one more, below the greatest number
more-at : (b : Bool) (k : ℕ) → cond b (k + 1) k < 2 ^ 64 → cond b (more k) k ≡ cond b (k + 1) k
more-at true k h = omega arith
more-at false k h = refl

more-of : (k : ℕ) → k + 1 < 2 ^ 64 → more k ≡ k + 1
more-of k h = omega arith

-- a count that has come to its end stays there
more-ends : (k : ℕ) → more (min k 18446744073709551615) ≡ min (k + 1) 18446744073709551615
more-ends k = omega arith

more-ends-at : (b : Bool) (k : ℕ) → cond b (more (min k 18446744073709551615)) (min k 18446744073709551615) ≡ min
    (cond b (k + 1) k) 18446744073709551615
more-ends-at true k = more-ends k
more-ends-at false k = refl

-- readers that are left and permits, by what the slot contains
left-same : (e : Extra) (v : SlotsEvent) (h : History) → ((n : ℕ) → readers n (v ∷ h) ≡ readers n h)
    → left_readers e h ≡ left_readers e (v ∷ h)
left-same nothing v h same = refl
left-same (flight n) v h same = refl
left-same (lost n) v h same = refl
left-same (retired n) v h same = sym (same n)
left-same (taken_out n) v h same = refl

tickets-same : (e : Extra) (v : SlotsEvent) (h : History) → drawn_retired (v ∷ h) ≡ drawn_retired h
    → left_tickets e h ≡ left_tickets e (v ∷ h)
tickets-same nothing v h same = refl
tickets-same (flight n) v h same = refl
tickets-same (lost n) v h same = refl
tickets-same (retired n) v h same = sym same
tickets-same (taken_out n) v h same = refl

-- a ticket of the retired selector
tickets-drawn : (e : Extra) (i t : ℕ) (h : History) → is_retired_of (generation_of e) e ≡ true
    → t ≡ left_tickets e (At i (DrewRetired t) ∷ h)
tickets-drawn nothing i t h r = absurd (cc)
tickets-drawn (flight n) i t h r = absurd (cc)
tickets-drawn (lost n) i t h r = absurd (cc)
tickets-drawn (retired n) i t h r = refl
tickets-drawn (taken_out n) i t h r = absurd (cc)

left-under_way : (g : ℕ) (e : Extra) (h : History) → is_under_way g e ≡ true → left_readers e h ≡ 0
left-under_way g nothing h up = refl
left-under_way g (flight n) h up = refl
left-under_way g (lost n) h up = refl
left-under_way g (retired n) h up = absurd (cc)
left-under_way g (taken_out n) h up = refl

left-flight : (e : Extra) (h : History) → is_flight e ≡ true → left_readers e h ≡ 0
left-flight nothing h up = refl
left-flight (flight n) h up = refl
left-flight (lost n) h up = refl
left-flight (retired n) h up = absurd (cc)
left-flight (taken_out n) h up = refl

permit-flight : (gate : GateId) (e : Extra) → is_flight e ≡ true → permit_in gate e ≡ Some gate
permit-flight gate nothing up = absurd (cc)
permit-flight gate (flight n) up = refl
permit-flight gate (lost n) up = refl
permit-flight gate (retired n) up = refl
permit-flight gate (taken_out n) up = refl

permit-under_way : (gate : GateId) (g : ℕ) (e : Extra) → is_under_way g e ≡ true → permit_in gate e ≡ Some gate
permit-under_way gate g nothing up = absurd (cc)
permit-under_way gate g (flight n) up = refl
permit-under_way gate g (lost n) up = refl
permit-under_way gate g (retired n) up = refl
permit-under_way gate g (taken_out n) up = refl

permit-retired : (gate : GateId) (g : ℕ) (e : Extra) → is_retired_of g e ≡ true → permit_in gate e ≡ Some gate
permit-retired gate g nothing up = absurd (cc)
permit-retired gate g (flight n) up = refl
permit-retired gate g (lost n) up = refl
permit-retired gate g (retired n) up = refl
permit-retired gate g (taken_out n) up = refl

-- the orders that wait, over plain numbers
module _ {C : Type 0} where
  abbrev waiting-at : ℕ → ℕ → Extra → OrderValue C → Option (OrderValue C)
  waiting-at s n e o = cond (nat_lt (max s (flight_number e)) n && not (is_lost_of n e)) (Some o) None

  ordered-waits : (s g n : ℕ) (e : Extra) (o : OrderValue C) → s ≤ g → g ≤ n → UnderWayFits s g e → Some o ≡ waiting-at s (n + 1) e o
  ordered-waits s g n nothing o below in_ fits = rw (lt-ltb (max s 0) (n + 1) (omega arith)) refl
  ordered-waits s g n (flight m) o below in_ fits = let same : m ≡ g = fits.0 in rw (lt-ltb (max s m) (n + 1) (omega arith)) refl
  ordered-waits s g n (lost m) o below in_ fits =
      let same : m ≡ g = fits.0 in
      rw (lt-ltb (max s 0) (n + 1) (omega arith), ne_eqb m (n + 1) (λ e. omega arith)) refl
  ordered-waits s g n (retired m) o below in_ fits = rw (lt-ltb (max s 0) (n + 1) (omega arith)) refl
  ordered-waits s g n (taken_out m) o below in_ fits = rw (lt-ltb (max s 0) (n + 1) (omega arith)) refl

  granted-waits : (s n : ℕ) (o : OrderValue C) → None ≡ waiting-at s n (flight n) o
  granted-waits s n o = rw (lt-false (max s n) n (omega arith)) refl

  -- an order of an older generation came back: the newest one waits as before
  still-waits : (s g n : ℕ) (e : Extra) (o : OrderValue C) → is_under_way g e ≡ true → UnderWayFits s g e → g < n
      → waiting-at s n e o ≡ Some o
  still-waits s g n nothing o up fits old = absurd (cc)
  still-waits s g n (flight m) o up fits old =
      let same : m ≡ g = fits.0 in let above : s < m = fits.1 in rw (lt-ltb (max s m) n (omega arith)) refl
  still-waits s g n (lost m) o up fits old =
      let same : m ≡ g = fits.0 in let above : s < m = fits.1 in rw (lt-ltb (max s 0) n (omega arith), ne_eqb m n (λ e. omega arith)) refl
  still-waits s g n (retired m) o up fits old = absurd (cc)
  still-waits s g n (taken_out m) o up fits old = absurd (cc)

  back-waits : (c : C) (s g n : ℕ) (e : Extra) (ms os : List Member) → is_under_way g e ≡ true → UnderWayFits s g e → g ≤ n
      → cond (g == n) (Some (record { generation = g; members = ms; config = c }))
      (waiting-at s n e (record { generation = n; members = os; config = c }))
      ≡ cond (nat_lt (max s 0) n && true) (Some (record { generation = n; members = cond (g == n) ms os; config = c })) None
  back-waits c s g n e ms os up fits in_ =
      let above : s < g = is_up s g e up fits in
      rw (lt-ltb (max s 0) n (omega arith))
      (⊎_elim
      (λ t. rw (t.0) (ap (λ (k : ℕ). Some (record { generation = k; members = ms; config = c })) t.1))
      (λ t. rw (t.0) (still-waits s g n e (record { generation = n; members = os; config = c }) up fits (let apart : ¬ (g ≡ n) = t.1
      in omega arith)))
      (eqb_tells g n))

  lost-waits : (s g n : ℕ) (e : Extra) (o : OrderValue C) → is_flight e ≡ true → UnderWayFits s g e → g ≤ n
      → waiting-at s n e o ≡ waiting-at s n (lost g) o
  lost-waits s g n nothing o up fits in_ = absurd (cc)
  lost-waits s g n (flight m) o up fits in_ =
      let same : m ≡ g = fits.0 in
      let above : s < m = fits.1 in
      rw (lt-ltb (max s 0) n (omega arith))
      (⊎_elim
      (λ t. rw (t.0, lt-false (max s m) n (let e : g ≡ n = t.1 in omega arith)) refl)
      (λ t. rw (t.0, lt-ltb (max s m) n (let e : ¬ (g ≡ n) = t.1 in omega arith)) refl)
      (eqb_tells g n))
  lost-waits s g n (lost m) o up fits in_ = absurd (cc)
  lost-waits s g n (retired m) o up fits in_ = absurd (cc)
  lost-waits s g n (taken_out m) o up fits in_ = absurd (cc)

  published-waits : (s g n : ℕ) (e : Extra) (o : OrderValue C) → is_flight e ≡ true → UnderWayFits s g e
      → waiting-at s n e o ≡ waiting-at g n (retired s) o
  published-waits s g n nothing o up fits = absurd (cc)
  published-waits s g n (flight m) o up fits =
      let same : m ≡ g = fits.0 in
      let above : s < m = fits.1 in
      let number : max s m ≡ max g 0 = omega arith in
      ap (λ (k : ℕ). cond (nat_lt k n && true) (Some o) None) number
  published-waits s g n (lost m) o up fits = absurd (cc)
  published-waits s g n (retired m) o up fits = absurd (cc)
  published-waits s g n (taken_out m) o up fits = absurd (cc)

  taken-waits : (s n : ℕ) (e : Extra) (o : OrderValue C) → is_retired_of (generation_of e) e ≡ true
      → waiting-at s n e o ≡ waiting-at s n (taken_out (generation_of e)) o
  taken-waits s n nothing o r = absurd (cc)
  taken-waits s n (flight m) o r = absurd (cc)
  taken-waits s n (lost m) o r = absurd (cc)
  taken-waits s n (retired m) o r = refl
  taken-waits s n (taken_out m) o r = absurd (cc)

  destroyed-waits : (s n : ℕ) (e : Extra) (o : OrderValue C) → is_taken_out e ≡ true → waiting-at s n e o ≡ waiting-at s n nothing o
  destroyed-waits s n nothing o r = absurd (cc)
  destroyed-waits s n (flight m) o r = absurd (cc)
  destroyed-waits s n (lost m) o r = absurd (cc)
  destroyed-waits s n (retired m) o r = absurd (cc)
  destroyed-waits s n (taken_out m) o r = refl

out-left : (e : Extra) (h : History) → is_taken_out e ≡ true → left_readers e h ≡ 0
out-left nothing h r = refl
out-left (flight m) h r = refl
out-left (lost m) h r = refl
out-left (retired m) h r = absurd (cc)
out-left (taken_out m) h r = refl

flown-number : (s g : ℕ) (e : Extra) → is_flight e ≡ true → UnderWayFits s g e → flight_number e ≡ g
flown-number s g nothing up fits = absurd (cc)
flown-number s g (flight m) up fits = fits.0
flown-number s g (lost m) up fits = absurd (cc)
flown-number s g (retired m) up fits = absurd (cc)
flown-number s g (taken_out m) up fits = absurd (cc)

entered-left : (s : ℕ) (g : ℕ) (e : Extra) (i : ℕ) (h : History) → served h ≡ s → UnderWayFits s g e
    → left_readers e h ≡ left_readers e (At i Entered ∷ h)
entered-left s g nothing i h is fits = refl
entered-left s g (flight m) i h is fits = refl
entered-left s g (lost m) i h is fits = refl
entered-left s g (retired m) i h is fits = rw (ne_eqb (served h) m (λ e. fits (sym e ∙ is))) refl
entered-left s g (taken_out m) i h is fits = refl

none-less : (b : Bool) → cond b (0 - 1) 0 ≡ 0
none-less true = refl
none-less false = refl

and-false : (b : Bool) → (b && false) ≡ false
and-false true = refl
and-false false = refl

left-left : (s g n : ℕ) (e : Extra) (i : ℕ) (h : History) → UnderWayFits s g e
    → cond (not (s == n) && is_retired_of n e) (left_readers e h - 1) (left_readers e h) ≡ left_readers e (At i (Left n) ∷ h)
left-left s g n nothing i h fits = none-less (not (s == n) && false)
left-left s g n (flight m) i h fits = none-less (not (s == n) && false)
left-left s g n (lost m) i h fits = none-less (not (s == n) && false)
left-left s g n (retired m) i h fits =
    ⊎_elim
    (λ t. let apart : ¬ (s ≡ n) = λ e. fits (t.1 ∙ sym e) in rw (t.0, ne_eqb s n apart) refl)
    (λ t. rw (t.0, and-false (not (s == n))) refl)
    (eqb_tells m n)
left-left s g n (taken_out m) i h fits = none-less (not (s == n) && false)

retired-left : (n : ℕ) (e : Extra) (h : History) → is_retired_of n e ≡ true → left_readers e h ≡ readers n h
retired-left n nothing h r = absurd (cc)
retired-left n (flight m) h r = absurd (cc)
retired-left n (lost m) h r = absurd (cc)
retired-left n (retired m) h r = ap (λ (k : ℕ). readers k h) (eqb-true m n r)
retired-left n (taken_out m) h r = absurd (cc)

-- when the next build is due, by a count of failures that has come to its end
due-long : (k moment : ℕ) → 7 < k → due_after k moment ≡ later moment 1000000000
due-long k moment h = rw (ne_eqb k 0 (λ e. omega arith)) (ap (later moment) (capped_delay k h))

due-min : (k moment : ℕ) → due_after (min k 18446744073709551615) moment ≡ due_after k moment
due-min k moment =
    ⊎_elim
    (λ (few : k ≤ 18446744073709551615). let e : min k 18446744073709551615 ≡ k = omega arith in ap (λ (m : ℕ). due_after m moment) e)
    (λ (many : 18446744073709551615 < k). due-long (min k 18446744073709551615) moment (omega arith)
    ∙ sym (due-long k moment (omega arith)))
    (either k 18446744073709551615)
  where
    either : (a b : ℕ) → (a ≤ b) ⊎ (b < a)
    either a b = elim (nat_lt b a) as (λ q. nat_lt b a ≡ q → (a ≤ b) ⊎ (b < a)) [
      | true ↦ λ e. inr (ltb-true b a e)
      | false ↦ λ e. inl (not-below b a e)
    ] refl

module _ {C : Type 0} where
  -- a membership comes
  pub ordered-step : (gate : GateId) (c : C) (ms : List Member) (now : ℕ) (h : History) → IsPast (Scheduled ms now ∷ h)
      → newest h + 1 < 2 ^ 64
      → ordered_slot (newest h) (record { generation = newest h + 1; members = ms; config = c }) (slot_after gate c h) ≡ slot_after gate c
      (Scheduled ms now ∷ h)
  ordered-step gate c ms now h p fits =
      let all : Balanced (Scheduled ms now ∷ h) = balanced (Scheduled ms now ∷ h) p in
      let none = unfailed (newest h + 1) h (omega arith) in
      let early : granted h ≤ newest h = granted-newest h in
      same-parts c refl refl
      (ordered-waits (served h) (granted h) (newest h) (extra h) (record { generation = newest h + 1; members = ms; config = c })
      (served-granted h) early (under-way-fits h p.0))
      refl (left-same (extra h) (Scheduled ms now) h (λ n. refl)) (tickets-same (extra h) (Scheduled ms now) h refl) refl refl
      (sym (rw (ne_eqb (newest h + 1) (granted h) (λ e. omega arith)) refl))
      (sym (ap (λ (k : ℕ). min k 18446744073709551615) none.0)) (sym none.1)
      (same-counts _ _ _ _ _ _ _ _ refl (more-at (waits h) (coalesced h) (omega (arith, all))) refl refl) refl

  pub granted-step : (gate : GateId) (c : C) (i now : ℕ) (h : History) → IsPast (At i (Granted now) ∷ h)
      → asked_slot job gate (newest h) (scheduled_at (newest h) h) now (slot_after gate c h) ≡ slot_after gate c (At i (Granted now) ∷ h)
  granted-step gate c i now h p =
      same-parts c refl refl
      (granted-waits (served h) (newest h) (record { generation = newest h; members = order_members h; config = c }))
      refl (ap (λ (e : Extra). left_readers e h) p.1.0) refl refl refl refl refl refl refl refl

  pub failed-step : (gate : GateId) (c : C) (i now : ℕ) (ms : List Member) (h : History) → IsPast (At i (Failed now ms) ∷ h)
      → newest h < 2 ^ 64
      → failed_slot (newest h) now (record { generation = granted h; members = ms; config = c }) (slot_after gate c h) ≡ slot_after gate c
      (At i (Failed now ms) ∷ h)
  failed-step gate c i now ms h p fits =
      let all : Balanced (At i (Failed now ms) ∷ h) = balanced (At i (Failed now ms) ∷ h) p in
      same-parts c refl refl
      (back-waits c (served h) (granted h) (newest h) (extra h) ms (order_members h) p.1 (under-way-fits h p.0) (granted-newest h))
      refl (left-under_way (granted h) (extra h) h p.1) refl refl refl refl
      (more-ends-at (granted h == newest h) (failures (newest h) h)) refl
      (same-counts _ _ _ _ _ _ _ _ refl refl (more-at (is_outdated h) (superseded h) (omega (arith, all))) (more-ends (all_failures h)))
      refl

  pub published-step : (gate : GateId) (c : C) (group : GroupId) (slot i ended : ℕ) (ms : List Member) (h : History)
      → IsPast (At i (Published ended ms) ∷ h) → newest h < 2 ^ 64
      → published_slot (record {
        task = record {
          group = group;
          slot = slot;
          generation = granted h;
          members = ms;
          config = c;
          permit = gate;
        };
        ended = ended;
      }) (slot_after gate c h)
      ≡ slot_after gate c (At i (Published ended ms) ∷ h)
  published-step gate c group slot i ended ms h p fits =
      let all : Balanced (At i (Published ended ms) ∷ h) = balanced (At i (Published ended ms) ∷ h) p in
      let above : served h < granted h = flies (served h) (granted h) (extra h) p.1.0 (under-way-fits h p.0) in
      same-parts c refl (sym (unread (granted h) h above))
      (published-waits (served h) (granted h) (newest h) (extra h) (record { generation = newest h; members = order_members h; config = c })
      p.1.0 (under-way-fits h p.0))
      refl refl refl (permit-flight gate (extra h) p.1.0) refl refl refl refl
      (same-counts _ _ _ _ _ _ _ _ (more-of (published h) (omega (arith, all))) refl refl refl) refl

  pub abandoned-step : (gate : GateId) (c : C) (group : GroupId) (slot i ended : ℕ) (ms : List Member) (h : History)
      → IsPast (At i (Abandoned ms) ∷ h) → newest h < 2 ^ 64
      → abandoned_slot (newest h)
      (record {
        task = record { group = group; slot = slot; generation = granted h; members = ms; config = c; permit = gate };
        ended = ended;
      }) (slot_after gate c h)
      ≡ slot_after gate c (At i (Abandoned ms) ∷ h)
  abandoned-step gate c group slot i ended ms h p fits =
      let all : Balanced (At i (Abandoned ms) ∷ h) = balanced (At i (Abandoned ms) ∷ h) p in
      let above : served h < granted h = is_up (served h) (granted h) (extra h) p.1 (under-way-fits h p.0) in
      same-parts c refl refl
      (back-waits c (served h) (granted h) (newest h) (extra h) ms (order_members h) p.1 (under-way-fits h p.0) (granted-newest h))
      refl (sym (unread (granted h) h above)) refl (permit-under_way gate (granted h) (extra h) p.1) refl refl refl refl
      (same-counts _ _ _ _ _ _ _ _ refl refl (more-at (is_outdated h) (superseded h) (omega (arith, all))) refl) refl

  pub lost-step : (gate : GateId) (c : C) (i : ℕ) (h : History) → IsPast (At i WorkerLost ∷ h) → newest h < 2 ^ 64
      → lost_slot (newest h) (slot_after gate c h) ≡ slot_after gate c (At i WorkerLost ∷ h)
  lost-step gate c i h p fits =
      let all : Balanced (At i WorkerLost ∷ h) = balanced (At i WorkerLost ∷ h) p in
      same-parts c refl refl
      (lost-waits (served h) (granted h) (newest h) (extra h) (record { generation = newest h; members = order_members h; config = c }) p.1
      (under-way-fits h p.0) (granted-newest h))
      (ap lost (flown-number (served h) (granted h) (extra h) p.1 (under-way-fits h p.0)))
      (left-flight (extra h) h p.1) refl (permit-flight gate (extra h) p.1) refl refl refl refl
      (same-counts _ _ _ _ _ _ _ _ refl refl (more-at (is_outdated h) (superseded h) (omega (arith, all))) refl) refl

  pub taken-step : (gate : GateId) (c : C) (i : ℕ) (h : History) → IsPast (At i TakenOut ∷ h)
      → taken_slot (slot_after gate c h) ≡ slot_after gate c (At i TakenOut ∷ h)
  taken-step gate c i h p =
      same-parts c refl refl
      (taken-waits (served h) (newest h) (extra h) (record { generation = newest h; members = order_members h; config = c }) p.1.0)
      refl refl refl (permit-retired gate (generation_of (extra h)) (extra h) p.1.0) refl refl refl refl refl refl

  pub destroyed-step : (gate : GateId) (c : C) (i : ℕ) (h : History) → IsPast (At i Destroyed ∷ h)
      → destroyed_slot (slot_after gate c h) ≡ slot_after gate c (At i Destroyed ∷ h)
  destroyed-step gate c i h p =
      same-parts c refl refl
      (destroyed-waits (served h) (newest h) (extra h) (record { generation = newest h; members = order_members h; config = c }) p.1)
      refl (out-left (extra h) h p.1) refl refl refl refl refl refl refl refl

  pub entered-step : (gate : GateId) (c : C) (i : ℕ) (h : History) → IsPast h
      → entered_slot (slot_after gate c h) ≡ slot_after gate c (At i Entered ∷ h)
  entered-step gate c i h p =
      same-parts c refl (sym (rw (eq-eqb (served h) (served h) refl) refl)) refl
      refl (entered-left (served h) (granted h) (extra h) i h refl (under-way-fits h p)) (tickets-same (extra h) (At i Entered) h refl)
      refl refl refl refl refl refl refl

  pub left-step : (gate : GateId) (c : C) (i n : ℕ) (h : History) → IsPast h
      → left_slot n (slot_after gate c h) ≡ slot_after gate c (At i (Left n) ∷ h)
  left-step gate c i n h p =
      same-parts c refl refl refl refl (left-left (served h) (granted h) n (extra h) i h (under-way-fits h p))
      (tickets-same (extra h) (At i (Left n)) h refl) refl refl refl refl refl refl refl

  pub drew-step : (gate : GateId) (c : C) (i t : ℕ) (h : History)
      → drawn_slot t (slot_after gate c h) ≡ slot_after gate c (At i (Drew t) ∷ h)
  drew-step gate c i t h =
      same-parts c refl refl refl refl (left-same (extra h) (At i (Drew t)) h (λ n. refl)) (tickets-same (extra h) (At i (Drew t)) h refl)
      refl refl refl refl refl refl refl

  pub drew-retired-step : (gate : GateId) (c : C) (i t : ℕ) (h : History) → is_retired_of (generation_of (extra h)) (extra h) ≡ true
      → left_drawn_slot t (slot_after gate c h) ≡ slot_after gate c (At i (DrewRetired t) ∷ h)
  drew-retired-step gate c i t h there =
      same-parts c refl refl refl refl (left-same (extra h) (At i (DrewRetired t)) h (λ n. refl)) (tickets-drawn (extra h) i t h there)
      refl refl refl refl refl refl refl

  pub cancelled-step : (gate : GateId) (c : C) (h : History) → slot_after gate c h ≡ slot_after gate c (Cancelled ∷ h)
  cancelled-step gate c h =
      same-parts c refl refl refl refl (left-same (extra h) Cancelled h (λ n. refl)) (tickets-same (extra h) Cancelled h refl)
      refl refl refl refl refl refl refl

  -- how many readers of a generation the slot shows
  pub readers-shown : (gate : GateId) (c : C) (n : ℕ) (h : History) → IsPast h → readers_at n (slot_after gate c h) ≡ readers n h
  readers-shown gate c n h p =
      ⊎_elim
      (λ t. rw (t.0) (ap (λ (k : ℕ). readers k h) t.1))
      (λ t. rw (t.0) (inner (is_retired_of n (extra h)) refl t.1))
      (eqb_tells (served h) n)
    where
      inner : (b : Bool) → is_retired_of n (extra h) ≡ b → ¬ (served h ≡ n) → cond b (left_readers (extra h) h) 0 ≡ readers n h
      inner true e apart = retired-left n (extra h) h e
      inner false e apart = sym (read_nowhere n h p apart e)

  -- what the slot answers to an ask
  tail : (w d out : Bool) (n m : ℕ) (e : Extra) (o : OrderValue C)
      → cond (not w) up_to_date
      (cond d (not_due m) (cond (out || (is_extra e || is_none (cond (w && not (is_lost_of n e)) (Some o) None))) busy job))
      ≡ cond (not w) up_to_date (cond d (not_due m) (cond (out || is_extra e) busy job))
  tail false d out n m e o = refl
  tail true d out n m nothing o = refl
  tail true d out n m (flight k) o = refl
  tail true d out n m (lost k) o = refl
  tail true d out n m (retired k) o = refl
  tail true d out n m (taken_out k) o = refl

  pub answered : (gate : GateId) (c : C) (out : Bool) (now : ℕ) (h : History)
      → slot_answer (newest h) (is_cancelled h) out now (slot_after gate c h) ≡ ask_answer h out now
  answered gate c out now h =
      rw (due-min (failures (newest h) h) (failed_at (newest h) h))
      (ap (λ (a : AskAnswer). cond (is_cancelled h) cancelled (cond (is_flight (extra h)) building a))
      (tail (waits h) (nat_lt now (due_after (failures (newest h) h) (failed_at (newest h) h))) out (newest h)
      (due_after (failures (newest h) h) (failed_at (newest h) h)) (extra h)
      (record { generation = newest h; members = order_members h; config = c })))
