-- What each call on a slot says of the group's history: its answer, and what the group is after it.
use Rattle.std.proofs.Common.{arith, ◌≡◌, ◌<◌, ◌&&◌, ◌||◌, ◌∙◌, ◌⊎◌, ◌++◌, ◌==◌, ◌+◌, ◌%◌, ◌^◌, MatchBool, ℕ, Bool, true, false, not, cond}
use Rattle.std.proofs.Common.{nat_lt, List, [], ◌∷◌, length, set, refl, sym, ap, subst, inl, inr, Some, None, Result, Ok, Err, IfOk}
use Rattle.std.proofs.Common.{IfErr, IfSome, OnErr, Option, slice_get}
use Rattle.std.proofs.lemmas.Bool.{ltb-true, lt-ltb, eqb-true, eq-eqb, ne_eqb}
use Rattle.lb_select_base.specs.Backends.{Member}
use Rattle.lb_select_base.specs.Draws.{Draw}
use Rattle.lb_select_base.specs.declared.refusal.Refusal.{Refusal}
use Rattle.lb_select_base.specs.declared.refusal.Refusal.TheVariants as refusal
use Rattle.lb_rebuild_core.specs.Gate.{GateId, GateValue, GroupId}
use Rattle.lb_rebuild_core.specs.SlotsHistory.{Granted, Failed, Published, Abandoned, WorkerLost, TakenOut, Destroyed, Entered, Left, Drew}
use Rattle.lb_rebuild_core.specs.SlotsHistory.{DrewRetired, drawn_retired}
use Rattle.lb_rebuild_core.specs.SlotsHistory.{At, History, past_of, newest, scheduled_at, is_cancelled, granted, served, order_members}
use Rattle.lb_rebuild_core.specs.SlotsHistory.{Extra, nothing, flight, lost, retired, taken_out, is_flight, is_extra, is_under_way}
use Rattle.lb_rebuild_core.specs.SlotsHistory.{is_retired_of, is_taken_out, generation_of, extra, waits, readers, due_moment, AskAnswer}
use Rattle.lb_rebuild_core.specs.SlotsHistory.{cancelled, building, up_to_date, not_due, busy, job, ask_answer, MayHappen, drawn}
use Rattle.lb_rebuild_core.specs.Values.{OrderValue, PlaceValue, Task, BuiltValue, RetiredValue, ReaderValue, SlotValue, SlotsValue}
use Rattle.lb_rebuild_core.specs.Values.{order_of, configs_of}
use Rattle.lb_rebuild_core.specs.Stands.{Made, order_due, left_readers, left_tickets, permit_in, slot_after, StandsFor}
use Rattle.lb_rebuild_core.specs.SlotSeen.{extra_of, permit_of, slot_value}
use Rattle.lb_rebuild_core.specs.SlotCalls.{slot_answer, ask_told, asked_slot, asked_gate, IsJobOf, failed_slot, published_slot}
use Rattle.lb_rebuild_core.specs.SlotCalls.{abandoned_slot, lost_slot, entered_slot, reader_of, readers_at, left_slot, take_refusal}
use Rattle.lb_rebuild_core.specs.SlotCalls.{taken_slot, TakesAt, destroyed_slot, drawn_slot, TicketAt, SelectsFrom, PublishesAt}
use Rattle.lb_rebuild_core.specs.SlotCalls.{left_drawn_slot, AbandonsAt, LosesAt, LeavesAt}
use Rattle.lb_rebuild_core.specs.SlotsCalls.{JobIs, IsOwnJob, Asks, asked_events, is_awaited, is_served, Publishes, publish_events}
use Rattle.lb_rebuild_core.specs.SlotsCalls.{Abandons, abandon_events, lose_refusal, Unless, done_at, enter_refusal, Enters, is_read}
use Rattle.lb_rebuild_core.specs.SlotsCalls.{Leaves, Takes, is_owed, SelectsIn, select_events, IsTicket, ticket_events}
use Rattle.lb_rebuild_core.specs.declared.answers.Ask.{Ask}
use Rattle.lb_rebuild_core.specs.declared.answers.Ask.TheVariants as asked
use Rattle.lb_rebuild_core.specs.declared.answers.Publication.{Publication}
use Rattle.lb_rebuild_core.specs.declared.answers.Publication.TheVariants as told
use Rattle.lb_rebuild_core.specs.declared.answers.Selection.{Selection}
use Rattle.lb_rebuild_core.specs.declared.slot.Slot.{Slot}
use Rattle.lb_rebuild_core.proofs.Pasts.{UnderWayFits, under-way-fits, newest-past}
use Rattle.lb_rebuild_core.proofs.SlotSteps.{answered, granted-step, failed-step, published-step, abandoned-step, lost-step, taken-step}
use Rattle.lb_rebuild_core.proofs.SlotSteps.{destroyed-step, entered-step, left-step, drew-step, drew-retired-step, readers-shown}
use Rattle.lb_rebuild_core.proofs.SlotsSteps.{slots_of, Facing, configs-after, id-made, gate-made}

cong2 : {A B D : Type 0} (f : A → B → D) (a c : A) (b d : B) → a ≡ c → b ≡ d → f a b ≡ f c d
cong2 f a c b d p q = cc

cong3 : {A B X D : Type 0} (f : A → B → X → D) (a c : A) (b d : B) (x y : X) → a ≡ c → b ≡ d → x ≡ y → f a b x ≡ f c d y
cong3 f a c b d x y p q r = cc

-- which tests an answer rests on
only-job : (ca fl w d o : Bool) (m : ℕ)
    → cond ca cancelled (cond fl building (cond (not w) up_to_date (cond d (not_due m) (cond o busy job)))) ≡ job
    → (w ≡ true) × (ca ≡ false) × (o ≡ false)
only-job true fl w d o m e = absurd (cc)
only-job false true w d o m e = absurd (cc)
only-job false false false d o m e = absurd (cc)
only-job false false true true o m e = absurd (cc)
only-job false false true false true m e = absurd (cc)
only-job false false true false false m e = (refl, refl, refl)

or-second : (a b : Bool) → (a || b) ≡ false → b ≡ false
or-second true b e = absurd (cc)
or-second false b e = e

and-not : (a b : Bool) → (a && not b) ≡ true → (a ≡ true) × (b ≡ false)
and-not true true e = absurd (cc)
and-not true false e = (refl, refl)
and-not false b e = absurd (cc)

none-there : (e : Extra) → is_extra e ≡ false → e ≡ nothing
none-there nothing h = refl
none-there (flight n) h = absurd (cc)
none-there (lost n) h = absurd (cc)
none-there (retired n) h = absurd (cc)
none-there (taken_out n) h = absurd (cc)

pub job-tells : (h : History) (out : Bool) (now : ℕ) → ask_answer h out now ≡ job → (waits h ≡ true) × (is_cancelled h ≡ false)
    × (is_extra (extra h) ≡ false)
job-tells h out now e =
    let tests = only-job (is_cancelled h) (is_flight (extra h)) (waits h) (nat_lt now (due_moment h)) (out || is_extra (extra h))
    (due_moment h) e in
    (tests.0, tests.1, or-second out (is_extra (extra h)) tests.2)

job-may : (h : History) (out : Bool) (now : ℕ) → ask_answer h out now ≡ job → MayHappen h (Granted now)
job-may h out now e = let tells = job-tells h out now e in (none-there (extra h) tells.2, tells.0, tells.1)

-- a retired selector is there, of some generation
retired-some : (g : ℕ) (e : Extra) → is_retired_of g e ≡ true → is_retired_of (generation_of e) e ≡ true
retired-some g nothing r = absurd (cc)
retired-some g (flight m) r = absurd (cc)
retired-some g (lost m) r = absurd (cc)
retired-some g (retired m) r = eq-eqb m m refl
retired-some g (taken_out m) r = absurd (cc)

left-tickets-are : (g : ℕ) (e : Extra) (h : History) → is_retired_of g e ≡ true → left_tickets e h ≡ drawn_retired h
left-tickets-are g nothing h r = absurd (cc)
left-tickets-are g (flight m) h r = absurd (cc)
left-tickets-are g (lost m) h r = absurd (cc)
left-tickets-are g (retired m) h r = refl
left-tickets-are g (taken_out m) h r = absurd (cc)

under_way-is : (s g k : ℕ) (e : Extra) → is_under_way k e ≡ true → UnderWayFits s g e → k ≡ g
under_way-is s g k nothing up fits = absurd (cc)
under_way-is s g k (flight m) up fits = sym (eqb-true m k up) ∙ fits.0
under_way-is s g k (lost m) up fits = sym (eqb-true m k up) ∙ fits.0
under_way-is s g k (retired m) up fits = absurd (cc)
under_way-is s g k (taken_out m) up fits = absurd (cc)

module _ {C : Type 0} where
  order-given : (b : Bool) (r o : OrderValue C) → cond b (Some r) None ≡ Some o → o ≡ r
  order-given true r o e = cc
  order-given false r o e = absurd (cc)

  order-is : (j : Task C) (g : ℕ) (c : C) → j.generation ≡ g → j.config ≡ c → order_of j ≡ record {
    generation = g;
    members = j.members;
    config = c;
  }
  order-is j g c p q = cong2 (λ k d. record { generation = k; members = j.members; config = d }) j.generation g j.config c p q

  built-is : (b : BuiltValue C) (g : ℕ) (c : C) (id : GateId) → b.task.generation ≡ g → b.task.config ≡ c → b.task.permit ≡ id
      → b ≡ record {
        task = record {
          group = b.task.group;
          slot = b.task.slot;
          generation = g;
          members = b.task.members;
          config = c;
          permit = id;
        };
        ended = b.ended;
      }
  built-is b g c id p q r =
      cong3 (λ k d i. record {
        task = record {
          group = b.task.group;
          slot = b.task.slot;
          generation = k;
          members = b.task.members;
          config = d;
          permit = i;
        };
        ended = b.ended;
      })
      b.task.generation g b.task.config c b.task.permit id p q r

-- an ask leaves the gate the same one
pub gate-stays : (a : AskAnswer) (g k : GateValue) → k ≡ asked_gate a g → k.id ≡ g.id
gate-stays cancelled g k e = ap (λ (v : GateValue). v.id) e
gate-stays building g k e = ap (λ (v : GateValue). v.id) e
gate-stays up_to_date g k e = ap (λ (v : GateValue). v.id) e
gate-stays (not_due m) g k e = ap (λ (v : GateValue). v.id) e
gate-stays busy g k e = ap (λ (v : GateValue). v.id) e
gate-stays job g k e = ap (λ (v : GateValue). v.id) e

module _ {S C W : Type 0} where
  -- a job that goes out is the group's own
  pub own-job : (made : Made C) (h k : History) (slot : ℕ) (a : Ask S C W) (v : SlotsValue C) → StandsFor made k v → JobIs made h slot a
      → IsOwnJob v a
  own-job made h k slot asked.Cancelled v s is = tt
  own-job made h k slot asked.Building v s is = tt
  own-job made h k slot asked.Nothing v s is = tt
  own-job made h k slot (asked.NotDue m) v s is = tt
  own-job made h k slot asked.Busy v s is = tt
  own-job made h k slot (asked.Job j) v s is = (
    is.group ∙ sym (id-made s),
    is.permit ∙ sym (gate-made s),
    ap (λ (l : List C). slice_get l j.slot) (ap (λ (w : SlotsValue C). configs_of w) s.shows ∙ configs-after made.gate 0 made.configs k)
        ∙ ap (slice_get made.configs) is.place ∙ is.config,
  )

module _ {C : Type 0} where
  -- a retired selector that is taken out is the group's own, with a permit of its gate
  pub taken-own : (made : Made C) (h k : History) (slot : ℕ) (r : Result RetiredValue Refusal) (v : SlotsValue C) → StandsFor made k v
      → Takes made h slot r
      → IfOk r (λ q. (q.group ≡ v.id) × (q.slot ≡ slot) × (q.permit ≡ v.gate))
  taken-own made h k slot (Ok q) v s is = (is.1 ∙ sym (id-made s), is.2, is.4 ∙ sym (gate-made s))
  taken-own made h k slot (Err e) v s is = tt

module _ {C : Type 0} where
  -- a reader that enters is the group's own
  pub entered-own : (made : Made C) (h k : History) (slot : ℕ) (r : Result (ReaderValue C) Refusal) (v : SlotsValue C) → StandsFor made k v
      → Enters made h slot r → IfOk r (λ q. q.group ≡ v.id)
  entered-own made h k slot (Ok q) v s is = is.5 ∙ sym (id-made s)
  entered-own made h k slot (Err e) v s is = tt

module _ {S C W : Type 0} {made : Made C} {h : History} {own : GroupId} {id : GateId} {n : ℕ} {ms : List Member} {at : ℕ} {st : Bool}
    {xs : List (Slot S C W)} {i : ℕ} {x y : Slot S C W}
    (f : Facing made h own id n ms at st xs i x y) where
  abbrev Past : History
  Past = past_of i h

  answer-is : (out : Bool) (now : ℕ) → slot_answer n st out now (slot_value x) ≡ ask_answer Past out now
  answer-is out now =
      cong3 (λ k b z. slot_answer k b out now z) n (newest Past) st (is_cancelled Past) (slot_value x) (slot_after made.gate f.config Past)
      f.newest_is f.stopped f.slot
      ∙ answered made.gate f.config out now Past

  pub asked-stands : (a : AskAnswer) (out : Bool) (now : ℕ) (g : GateId) → g ≡ made.gate → a ≡ slot_answer n st out now (slot_value x)
      → slot_value y ≡ asked_slot a g n at now (slot_value x)
      → StandsFor made (asked_events i now a ++ h) (slots_of own id n ms at st (set xs i y))
  asked-stands cancelled out now g own is to = f.same to
  asked-stands building out now g own is to = f.same to
  asked-stands up_to_date out now g own is to = f.same to
  asked-stands (not_due m) out now g own is to = f.same to
  asked-stands busy out now g own is to = f.same to
  asked-stands job out now g own is to =
      let may : MayHappen Past (Granted now) = job-may Past out now (sym (is ∙ answer-is out now)) in
      f.step (Granted now) may
      (to ∙ ap (λ (o : GateId). asked_slot job o n at now (slot_value x)) own
      ∙ cong3 (λ k m z. asked_slot job made.gate k m now z) n (newest Past) at (scheduled_at (newest Past) Past) (slot_value x)
      (slot_after made.gate f.config Past) f.newest_is f.moment f.slot
      ∙ granted-step made.gate f.config i now Past (f.past, may))

  job-is : (a : Ask S C W) (p : PlaceValue) (g : GateId) → p ≡ record { group = made.id; slot = i } → g ≡ made.gate
      → IsJobOf p g (slot_value x) a → JobIs made h i a
  job-is asked.Cancelled p g u e is = tt
  job-is asked.Building p g u e is = tt
  job-is asked.Nothing p g u e is = tt
  job-is (asked.NotDue m) p g u e is = tt
  job-is asked.Busy p g u e is = tt
  job-is (asked.Job j) p g u e is =
      let due : order_due f.config Past ≡ Some (order_of j) = sym (ap (λ (z : SlotValue C). z.waiting) f.slot) ∙ is.2 in
      let order : order_of j ≡ record { generation = newest Past; members = order_members Past; config = f.config } =
      order-given _ _ (order_of j) due in
      record {
        group = is.0 ∙ ap (λ (q : PlaceValue). q.group) u;
        place = is.1 ∙ ap (λ (q : PlaceValue). q.slot) u;
        generation = ap (λ (o : OrderValue C). o.generation) order ∙ newest-past i h;
        permit = is.3 ∙ e;
        config = f.there ∙ ap (λ (o : OrderValue C). Some o.config) (sym order);
        members = ap (λ (o : OrderValue C). o.members) order;
      }

  permit-owned : (e : Extra) (g : GateId) → g ≡ made.gate → IfSome (permit_in made.gate e) (λ p. p ≡ g)
  permit-owned nothing g own = tt
  permit-owned (flight m) g own = sym own
  permit-owned (lost m) g own = sym own
  permit-owned (retired m) g own = sym own
  permit-owned (taken_out m) g own = sym own

  -- what the slot has of a permit is of the group's gate
  pub permits : (g : GateId) → g ≡ made.gate → IfSome (permit_of x.stage) (λ p. p ≡ g)
  permits g own =
      subst (λ (o : Option GateId). IfSome o (λ p. p ≡ g)) (sym (ap (λ (z : SlotValue C). z.permit) f.slot))
      (permit-owned (extra Past) g own)

  pub permit-is : (p : GateId) → (slot_value x).permit ≡ Some p → p ≡ made.gate
  permit-is p e =
      let have : IfSome (Some p) (λ q. q ≡ made.gate) =
      subst (λ (o : Option GateId). IfSome o (λ q. q ≡ made.gate)) e (permits made.gate refl) in have

  -- the slot shows its extra
  pub extra-shown : is_extra (extra Past) ≡ true → is_extra (extra_of x.stage) ≡ true
  extra-shown is = ap (λ (z : SlotValue C). is_extra z.extra) f.slot ∙ is

  pub asks : (a : Ask S C W) (out : Bool) (now : ℕ) (p : PlaceValue) (g : GateId) → p ≡ record { group = made.id; slot = i }
      → g ≡ made.gate
      → ask_told a ≡ slot_answer n st out now (slot_value x) → IsJobOf p g (slot_value x) a → Asks made h i out now (Ok a)
  asks a out now p g u e is at_ = (f.inside, is ∙ answer-is out now, job-is a p g u e at_)

  pub under_way-shown : (g : ℕ) (b : Bool) → is_under_way g (slot_value x).extra ≡ b → is_under_way g (extra Past) ≡ b
  under_way-shown g b e = sym (ap (λ (z : SlotValue C). is_under_way g z.extra) f.slot) ∙ e

  up-granted : (g : ℕ) → is_under_way g (slot_value x).extra ≡ true → g ≡ granted Past
  up-granted g up = under_way-is (served Past) (granted Past) g (extra Past) (under_way-shown g true up) (under-way-fits Past f.past)

  up-may : (g : ℕ) → is_under_way g (slot_value x).extra ≡ true → is_under_way (granted Past) (extra Past) ≡ true
  up-may g up = subst (λ (k : ℕ). is_under_way k (extra Past) ≡ true) (up-granted g up) (under_way-shown g true up)

  pub failed-stands : (j : Task C) (now : ℕ) → i ≡ j.slot → j.config ≡ f.config → is_under_way j.generation (slot_value x).extra ≡ true
      → slot_value y ≡ failed_slot n now (order_of j) (slot_value x)
      → StandsFor made (At j.slot (Failed now j.members) ∷ h) (slots_of own id n ms at st (set xs i y))
  failed-stands j now place fit up to =
      let may : MayHappen Past (Failed now j.members) = up-may j.generation up in
      subst (λ (k : ℕ). StandsFor made (At k (Failed now j.members) ∷ h) (slots_of own id n ms at st (set xs i y))) place
      (f.step (Failed now j.members) may
      (to ∙ cong3 (λ k o z. failed_slot k now o z) n (newest Past) (order_of j) (record {
        generation = granted Past;
        members = j.members;
        config = f.config;
      }) (slot_value x) (slot_after made.gate f.config Past)
      f.newest_is (order-is j (granted Past) f.config (up-granted j.generation up) fit) f.slot
      ∙ failed-step made.gate f.config i now j.members Past (f.past, may) f.bounded))

  abandoned-stands : (b : BuiltValue C) → i ≡ b.task.slot → b.task.config ≡ f.config → b.task.permit ≡ made.gate
      → is_under_way b.task.generation (slot_value x).extra ≡ true
      → slot_value y ≡ abandoned_slot n b (slot_value x)
      → StandsFor made (At b.task.slot (Abandoned b.task.members) ∷ h) (slots_of own id n ms at st (set xs i y))
  abandoned-stands b place fit permit up to =
      let may : MayHappen Past (Abandoned b.task.members) = up-may b.task.generation up in
      subst (λ (k : ℕ). StandsFor made (At k (Abandoned b.task.members) ∷ h) (slots_of own id n ms at st (set xs i y))) place
      (f.step (Abandoned b.task.members) may
      (to ∙ cong3 (λ k o z. abandoned_slot k o z) n (newest Past) b
      (record {
        task = record {
          group = b.task.group;
          slot = b.task.slot;
          generation = granted Past;
          members = b.task.members;
          config = f.config;
          permit = made.gate;
        };
        ended = b.ended;
      })
      (slot_value x) (slot_after made.gate f.config Past)
      f.newest_is (built-is b (granted Past) f.config made.gate (up-granted b.task.generation up) fit permit) f.slot
      ∙ abandoned-step made.gate f.config b.task.group b.task.slot i b.ended b.task.members Past (f.past, may) f.bounded))

  published-stands : (b : BuiltValue C) → i ≡ b.task.slot → b.task.config ≡ f.config → b.task.permit ≡ made.gate
      → is_under_way b.task.generation (slot_value x).extra ≡ true
      → (is_flight (slot_value x).extra && not st) ≡ true → slot_value y ≡ published_slot b (slot_value x)
      → StandsFor made (At b.task.slot (Published b.ended b.task.members) ∷ h) (slots_of own id n ms at st (set xs i y))
  published-stands b place fit permit up serves to =
      let flies = and-not (is_flight (slot_value x).extra) st serves in
      let may : MayHappen Past (Published b.ended b.task.members) = (
        sym (ap (λ (z : SlotValue C). is_flight z.extra) f.slot) ∙ flies.0,
        sym f.stopped ∙ flies.1,
      ) in
      subst (λ (k : ℕ). StandsFor made (At k (Published b.ended b.task.members) ∷ h) (slots_of own id n ms at st (set xs i y))) place
      (f.step (Published b.ended b.task.members) may
      (to ∙ cong2 (λ o z. published_slot o z) b
      (record {
        task = record {
          group = b.task.group;
          slot = b.task.slot;
          generation = granted Past;
          members = b.task.members;
          config = f.config;
          permit = made.gate;
        };
        ended = b.ended;
      })
      (slot_value x) (slot_after made.gate f.config Past)
      (built-is b (granted Past) f.config made.gate (up-granted b.task.generation up) fit permit) f.slot
      ∙ published-step made.gate f.config b.task.group b.task.slot i b.ended b.task.members Past (f.past, may) f.bounded))

  pub awaited-at : (k g : ℕ) (b : Bool) → i ≡ k → is_under_way g (slot_value x).extra ≡ b → is_awaited k g h ≡ b
  awaited-at k g b place e = ap (λ (m : ℕ). is_awaited m g h) (sym place) ∙ under_way-shown g b e

  served-at : (k : ℕ) (b : Bool) → i ≡ k → (is_flight (slot_value x).extra && not st) ≡ b → is_served k h ≡ b
  served-at k b place e =
      ap (λ (m : ℕ). is_served m h) (sym place)
      ∙ sym (cong2 (λ (z : SlotValue C) (q : Bool). is_flight z.extra && not q) (slot_value x) (slot_after made.gate f.config Past) st
      (is_cancelled h) f.slot f.stopped_of) ∙ e

  pub publishes : (b : BuiltValue C) (r : Result Publication (BuiltValue C)) → i ≡ b.task.slot → b.task.config ≡ f.config
      → b.task.permit ≡ made.gate
      → PublishesAt n st b (slot_value x) r (slot_value y)
      → Publishes h b r × StandsFor made (publish_events b r ++ h) (slots_of own id n ms at st (set xs i y))
  publishes b (Ok (told.Published m)) place own permit is =
      let served_ : is_served b.task.slot h ≡ true = served-at b.task.slot true place is.1 in (
        (awaited-at b.task.slot b.task.generation true place is.0, ap told.Published is.2 ∙ sym (rw served_ refl)),
        published-stands b place own permit is.0 is.1 is.3,
      )
  publishes b (Ok (told.Abandoned m)) place own permit is =
      let served_ : is_served b.task.slot h ≡ false = served-at b.task.slot false place is.1 in (
        (awaited-at b.task.slot b.task.generation true place is.0, ap told.Abandoned is.2 ∙ sym (rw served_ refl)),
        abandoned-stands b place own permit is.0 is.3,
      )
  publishes b (Err c) place own permit is = ((awaited-at b.task.slot b.task.generation false place is.0, is.1), f.same is.2)

  pub abandons : (b : BuiltValue C) (r : Result (Unit {0}) (BuiltValue C)) → i ≡ b.task.slot → b.task.config ≡ f.config
      → b.task.permit ≡ made.gate
      → AbandonsAt n b (slot_value x) r (slot_value y)
      → Abandons h b r × StandsFor made (abandon_events b r ++ h) (slots_of own id n ms at st (set xs i y))
  abandons b (Ok u) place own permit is = (
    awaited-at b.task.slot b.task.generation true place is.0,
    abandoned-stands b place own permit is.0 is.1,
  )
  abandons b (Err c) place own permit is = ((awaited-at b.task.slot b.task.generation false place is.0, is.1), f.same is.2)

  pub loses : (r : Result (Unit {0}) Refusal) → LosesAt n (slot_value x) r (slot_value y)
      → Unless (lose_refusal made i h) r × StandsFor made (done_at i WorkerLost r ++ h) (slots_of own id n ms at st (set xs i y))
  loses (Ok u) is =
      let may : is_flight (extra Past) ≡ true = sym (ap (λ (z : SlotValue C). is_flight z.extra) f.slot) ∙ is.0 in (
        rw (lt-ltb i (length made.configs) f.inside, may) refl,
        f.step WorkerLost may (is.1 ∙ cong2 (λ k z. lost_slot k z) n (newest Past) (slot_value x) (slot_after made.gate f.config Past)
            f.newest_is f.slot ∙ lost-step made.gate f.config i Past (f.past, may) f.bounded),
      )
  loses (Err e) is =
      let none : is_flight (extra Past) ≡ false = sym (ap (λ (z : SlotValue C). is_flight z.extra) f.slot) ∙ is.0 in
      (rw (lt-ltb i (length made.configs) f.inside, none) (ap Some (sym is.1)), f.same is.2)

  pub enters : (p : PlaceValue) (r : Result (ReaderValue C) Refusal) → p ≡ record { group = made.id; slot = i }
      → IfOk r (λ t. ((slot_value x).readers < 18446744073709551615) × (t ≡ reader_of p (slot_value x))
      × (slot_value y ≡ entered_slot (slot_value x)))
      → IfErr r (λ e. (((slot_value x).readers ≡ 18446744073709551615) × (e ≡ refusal.NumbersExhausted))
      ⊎ (((slot_value x).readers < 18446744073709551615) × (e ≡ refusal.OutOfMemory)))
      → OnErr r (slot_value y ≡ slot_value x)
      → Enters made h i r × StandsFor made (done_at i Entered r ++ h) (slots_of own id n ms at st (set xs i y))
  enters p (Ok t) u ok err same =
      let few : readers (served Past) Past < 18446744073709551615 = subst (λ (z : SlotValue C). z.readers < 18446744073709551615) f.slot
      ok.0 in
      let reader : t ≡ reader_of (record { group = made.id; slot = i }) (slot_after made.gate f.config Past) =
      ok.1 ∙ cong2 reader_of p (record { group = made.id; slot = i }) (slot_value x) (slot_after made.gate f.config Past) u f.slot in (
        (
          rw (lt-ltb i (length made.configs) f.inside, ne_eqb (readers (served Past) Past) 18446744073709551615 (λ e. omega arith)) refl,
          ap (λ (q : ReaderValue C). q.slot) reader,
          ap (λ (q : ReaderValue C). q.generation) reader,
          ap (λ (q : ReaderValue C). q.members) reader,
          f.there ∙ ap (λ (q : ReaderValue C). Some q.config) (sym reader),
          ap (λ (q : ReaderValue C). q.group) reader,
        ),
        f.step Entered tt (ok.2 ∙ ap (λ (z : SlotValue C). entered_slot z) f.slot ∙ entered-step made.gate f.config i Past f.past),
      )
  enters p (Err e) u ok err same = (why err, f.same same)
    where
      why : (((slot_value x).readers ≡ 18446744073709551615) × (e ≡ refusal.NumbersExhausted))
          ⊎ (((slot_value x).readers < 18446744073709551615) × (e ≡ refusal.OutOfMemory))
          → (enter_refusal made i h ≡ Some e) ⊎ ((enter_refusal made i h ≡ None) × (e ≡ refusal.OutOfMemory))
      why (inl (all, is)) =
          let full : readers (served Past) Past ≡ 18446744073709551615 = sym (ap (λ (z : SlotValue C). z.readers) f.slot) ∙ all in
          inl (rw (lt-ltb i (length made.configs) f.inside, eq-eqb (readers (served Past) Past) 18446744073709551615 full)
          (ap Some (sym is)))
      why (inr (some, is)) =
          let few : readers (served Past) Past < 18446744073709551615 = subst (λ (z : SlotValue C). z.readers < 18446744073709551615) f.slot
          some in
          inr (
            rw (lt-ltb i (length made.configs) f.inside, ne_eqb (readers (served Past) Past) 18446744073709551615 (λ e. omega arith))
                refl,
            is,
          )

  read-shown : (m : ℕ) (b : Bool) → nat_lt 0 (readers_at m (slot_value x)) ≡ b → nat_lt 0 (readers m Past) ≡ b
  read-shown m b e =
      sym (ap (λ (k : ℕ). nat_lt 0 k) (ap (λ (z : SlotValue C). readers_at m z) f.slot ∙ readers-shown made.gate f.config m Past f.past))
      ∙ e

  read-at : (k m : ℕ) (b : Bool) → i ≡ k → nat_lt 0 (readers_at m (slot_value x)) ≡ b → is_read made k m h ≡ b
  read-at k m b place e =
      ap (λ (q : ℕ). is_read made q m h) (sym place) ∙ rw (lt-ltb i (length made.configs) f.inside) (read-shown m b e)

  pub leaves : (q : ReaderValue C) (r : Result (Unit {0}) (ReaderValue C)) → i ≡ q.slot → LeavesAt q (slot_value x) r (slot_value y)
      → Leaves made h q r × StandsFor made (done_at q.slot (Left q.generation) r ++ h) (slots_of own id n ms at st (set xs i y))
  leaves q (Ok u) place is =
      let some : nat_lt 0 (readers q.generation Past) ≡ true = read-shown q.generation true is.0 in
      let may : 0 < readers q.generation Past = ltb-true 0 (readers q.generation Past) some in (
        read-at q.slot q.generation true place is.0,
        subst (λ (k : ℕ). StandsFor made (At k (Left q.generation) ∷ h) (slots_of own id n ms at st (set xs i y))) place
            (f.step (Left q.generation) may (is.1 ∙ ap (λ (z : SlotValue C). left_slot q.generation z) f.slot
            ∙ left-step made.gate f.config i q.generation Past f.past)),
      )
  leaves q (Err k) place is = ((read-at q.slot q.generation false place is.0, is.1), f.same is.2)

  pub takes : (p : PlaceValue) (r : Result RetiredValue Refusal) → p ≡ record { group = made.id; slot = i }
      → TakesAt p (slot_value x) r (slot_value y)
      → Takes made h i r × StandsFor made (done_at i TakenOut r ++ h) (slots_of own id n ms at st (set xs i y))
  takes p (Ok r) u is =
      let out : extra Past ≡ retired r.generation = sym (ap (λ (z : SlotValue C). z.extra) f.slot) ∙ is.0 in
      let left : left_readers (extra Past) Past ≡ 0 = sym (ap (λ (z : SlotValue C). z.left_in) f.slot) ∙ is.1 in
      let none : take_refusal (extra Past) (left_readers (extra Past) Past) ≡ None = cong2 take_refusal (extra Past) (retired r.generation)
      (left_readers (extra Past) Past) 0 out left in
      let permit : Some made.gate ≡ Some r.permit = sym (ap (permit_in made.gate) out) ∙ sym (ap (λ (z : SlotValue C). z.permit) f.slot)
      ∙ is.2 in
      let may : MayHappen Past TakenOut = (
        subst (λ (e : Extra). is_retired_of (generation_of e) e ≡ true) (sym out) (eq-eqb r.generation r.generation refl),
        subst (λ (e : Extra). left_readers e Past ≡ 0 → readers (generation_of e) Past ≡ 0) (sym out) (λ z. z) left,
      ) in (
        (
          rw (lt-ltb i (length made.configs) f.inside) none,
          is.3 ∙ ap (λ (q : PlaceValue). q.group) u,
          is.4 ∙ ap (λ (q : PlaceValue). q.slot) u,
          sym (ap generation_of out),
          (let same : r.permit ≡ made.gate = cc in same),
        ),
        f.step TakenOut may (is.5 ∙ ap (λ (z : SlotValue C). taken_slot z) f.slot ∙ taken-step made.gate f.config i Past (f.past, may)),
      )
  takes p (Err e) u is =
      let why : take_refusal (extra Past) (left_readers (extra Past) Past) ≡ Some e =
      sym (ap (λ (z : SlotValue C). take_refusal z.extra z.left_in) f.slot) ∙ is.0 in
      (rw (lt-ltb i (length made.configs) f.inside) why, f.same is.1)

  pub owed-at : (b : Bool) → is_taken_out (slot_value x).extra ≡ b → is_owed made i h ≡ b
  owed-at b e = rw (lt-ltb i (length made.configs) f.inside) (sym (ap (λ (z : SlotValue C). is_taken_out z.extra) f.slot) ∙ e)

  pub reported-stands : is_taken_out (slot_value x).extra ≡ true → slot_value y ≡ destroyed_slot (slot_value x)
      → StandsFor made (At i Destroyed ∷ h) (slots_of own id n ms at st (set xs i y))
  reported-stands out to =
      let may : is_taken_out (extra Past) ≡ true = sym (ap (λ (z : SlotValue C). is_taken_out z.extra) f.slot) ∙ out in
      f.step Destroyed may (to ∙ ap (λ (z : SlotValue C). destroyed_slot z) f.slot ∙ destroyed-step made.gate f.config i Past (f.past, may))

  pub selects : (random : List Member → C → Bool) (walks : List Member → C → List ℕ → List Draw → List Member → Bool → Type 0)
      (accepts : Member → Bool → Type 0) (load_by : Member → ℕ)
      (key : List ℕ) (limit : ℕ) (words : List ℕ) (s : Selection)
      → SelectsFrom random walks accepts load_by key limit words (slot_value x).serving.members (slot_value x).serving.config
      (slot_value x).serving.tickets s
      → SelectsIn random walks accepts load_by made h i key limit words s
  selects random walks accepts load_by key limit words s is =
      rw f.there (subst (λ (z : SlotValue C). SelectsFrom random walks accepts load_by key limit words z.serving.members z.serving.config
      z.serving.tickets s) f.slot is)

  pub selected-stands : (s : Selection) → slot_value y ≡ drawn_slot s.tickets (slot_value x)
      → StandsFor made (select_events made i s ++ h) (slots_of own id n ms at st (set xs i y))
  selected-stands s to =
      rw (lt-ltb i (length made.configs) f.inside)
      (f.step (Drew s.tickets) tt (to ∙ ap (λ (z : SlotValue C). drawn_slot s.tickets z) f.slot
      ∙ drew-step made.gate f.config i s.tickets Past))

  -- a ticket that was drawn: of what the slot serves, of its retired selector, or none
  ticket-by : (b d : Bool) (g t : ℕ) → (d ≡ true → is_retired_of g (extra Past) ≡ true)
      → MatchBool b ((t ≡ drawn Past) × (slot_value y ≡ drawn_slot ((t + 1) % 2 ^ 64) (slot_after made.gate f.config Past)))
      (MatchBool d ((t ≡ left_tickets (extra Past) Past)
      × (slot_value y ≡ left_drawn_slot ((t + 1) % 2 ^ 64) (slot_after made.gate f.config Past)))
      ((t ≡ 0) × (slot_value y ≡ slot_after made.gate f.config Past)))
      → (t ≡ cond b (drawn Past) (cond d (drawn_retired Past) 0))
      × StandsFor made (cond b (At i (Drew ((t + 1) % 2 ^ 64)) ∷ []) (cond d (At i (DrewRetired ((t + 1) % 2 ^ 64)) ∷ []) []) ++ h)
      (slots_of own id n ms at st (set xs i y))
  ticket-by true d g t there is =
      (is.0, f.step (Drew ((t + 1) % 2 ^ 64)) tt (is.1 ∙ drew-step made.gate f.config i ((t + 1) % 2 ^ 64) Past))
  ticket-by false true g t there is =
      let may : MayHappen Past (DrewRetired ((t + 1) % 2 ^ 64)) = retired-some g (extra Past) (there refl) in (
        is.0 ∙ left-tickets-are g (extra Past) Past (there refl),
        f.step (DrewRetired ((t + 1) % 2 ^ 64)) may (is.1 ∙ drew-retired-step made.gate f.config i ((t + 1) % 2 ^ 64) Past may),
      )
  ticket-by false false g t there is = (is.0, f.same (is.1 ∙ sym f.slot))

  pub tickets : (k m g t : ℕ) → i ≡ k → m ≡ g → TicketAt m (slot_value x) t (slot_value y)
      → IsTicket made h k g t × StandsFor made (ticket_events made k g t h ++ h) (slots_of own id n ms at st (set xs i y))
  tickets k m g t place number was =
      let is : TicketAt g (slot_value x) t (slot_value y) = subst (λ (o : ℕ). TicketAt o (slot_value x) t (slot_value y)) number was in
      let here : TicketAt g (slot_after made.gate f.config Past) t (slot_value y) =
      subst (λ (z : SlotValue C). TicketAt g z t (slot_value y)) f.slot is in
      let told = ticket-by (served Past == g) (is_retired_of g (extra Past)) g t (λ e. e) here in
      subst (λ (o : ℕ). IsTicket made h o g t × StandsFor made (ticket_events made o g t h ++ h) (slots_of own id n ms at st (set xs i y)))
      place
      (rw (lt-ltb i (length made.configs) f.inside) told)

  -- a number that is read from the slot
  pub shown : {A : Type 0} (a : A) (b : A) → a ≡ b → Some a ≡ cond (nat_lt i (length made.configs)) (Some b) None
  shown a b e = rw (lt-ltb i (length made.configs) f.inside) (ap Some e)
