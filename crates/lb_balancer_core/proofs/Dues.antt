-- A worker's turn at a slot that is due, at a free gate of the plain group: the job is built and served, or one more build failed.
-- The calls are those of any port that are at least the plain group's own.
use Rattle.std.specs.Prelude.{◌≡◌, ◌⊎◌, ◌<◌, ◌||◌, ℕ, Bool, true, false, not, nat_lt, cond, List, [], ◌∷◌, ◌++◌, length, Option, Some}
use Rattle.std.specs.Prelude.{MatchBool, None, Result, Ok, Err, refl}
use Rattle.std.proofs.Common.{sym, ap, ◌∙◌, subst, arith, inl, inr}
use Rattle.std.proofs.lemmas.Bool.{lt-ltb}
use Rattle.lb_select_base.specs.Backends.{Member}
use Rattle.lb_select_base.specs.declared.refusal.Refusal.{Refusal}
use Rattle.lb_select_base.specs.declared.refusal.Refusal.TheVariants as refusal
use Rattle.lb_rebuild_core.specs.Gate.{GateValue}
use Rattle.lb_rebuild_core.specs.SlotsCalls.{IsJob, taken_refusal, publish_answer, publish_events}
use Rattle.lb_rebuild_core.specs.SlotsHistory as core
use Rattle.lb_rebuild_core.specs.SlotsHistory.{Granted, past_of, newest, extra, waits, is_extra, is_cancelled, is_flight}
use Rattle.lb_rebuild_core.specs.SlotsHistory.{due_moment, ask_answer, cancelled, building, up_to_date, not_due}
use Rattle.lb_rebuild_core.specs.SlotsHistory.{busy, job, Extra, nothing, readers}
use Rattle.lb_rebuild_core.specs.Stands.{Made}
use Rattle.lb_rebuild_core.specs.Values.{Task, BuiltValue, RetiredValue, PermitValue}
use Rattle.lb_rebuild_core.specs.declared.answers.Ask.{Ask}
use Rattle.lb_rebuild_core.specs.declared.answers.Ask.TheVariants as asks
use Rattle.lb_rebuild_core.specs.declared.answers.Publication.{Publication}
use Rattle.lb_rebuild_core.specs.declared.answers.Publication.TheVariants as told
use Rattle.lb_rebuild_core.proofs.Pasts.{past-same, newest-past, cancelled-past}
use Rattle.lb_rebuild_core.specs.GroupCalls.{IsTaken, IsAsked, IsPublished}
use Rattle.lb_rebuild_core.specs.GroupHistory.{History, At, slot_events, in_group}
use Rattle.lb_rebuild_core.specs.GroupStates.{GroupValue, Stands, After, Becomes}
use Rattle.lb_balancer_core.specs.Builds.{RefusedValue}
use Rattle.lb_balancer_core.specs.Due.{IsDue, IsClear, EndsTurn, EndsDue}
use Rattle.lb_balancer_core.specs.Calls.{owed_of}
use Rattle.lb_balancer_core.specs.Through.{Publishes, Fails, Answered, Asks, Clears, Turned, turn_of}
use Rattle.lb_balancer_core.specs.declared.turn.Turn.{Turn}
use Rattle.lb_balancer_core.specs.declared.turn.Turn.TheVariants as turn

job-if : (ca fl w d o : Bool) (m : ℕ) → ca ≡ false → fl ≡ false → w ≡ true → d ≡ false → o ≡ false
    → cond ca cancelled (cond fl building (cond (not w) up_to_date (cond d (not_due m) (cond o busy job)))) ≡ job
job-if ca fl w d o m a b c e f = rw (a, b, c, e, f) refl

early-if : (ca fl w d o : Bool) (m : ℕ) → ca ≡ false → fl ≡ false → w ≡ true → d ≡ true
    → cond ca cancelled (cond fl building (cond (not w) up_to_date (cond d (not_due m) (cond o busy job)))) ≡ not_due m
early-if ca fl w d o m a b c e = rw (a, b, c, e) refl

or-neither : (a b : Bool) → a ≡ false → b ≡ false → (a || b) ≡ false
or-neither a b x y = rw (x, y) refl

-- what a slot that has nothing but what it serves answers to a try to take something out
taken-none : {C : Type 0} (made : Made C) (slot : ℕ) (h : core.History) → slot < length made.configs → extra (past_of slot h) ≡ nothing
    → taken_refusal made slot h ≡ Some refusal.NothingRetired
taken-none made slot h there bare = rw (lt-ltb slot (length made.configs) there, bare) refl

-- at a free gate no slot has an extra
bare-at-free : (x : Extra) (o : Bool) → (is_extra x ≡ true → o ≡ true) → o ≡ false → x ≡ nothing
bare-at-free nothing o out free = refl
bare-at-free (core.flight n) o out free = let no : true ≡ false = sym (out refl) ∙ free in absurd (cc)
bare-at-free (core.lost n) o out free = let no : true ≡ false = sym (out refl) ∙ free in absurd (cc)
bare-at-free (core.retired n) o out free = let no : true ≡ false = sym (out refl) ∙ free in absurd (cc)
bare-at-free (core.taken_out n) o out free = let no : true ≡ false = sym (out refl) ∙ free in absurd (cc)

-- a retired selector without readers can be taken out
taken-some : {C : Type 0} (made : Made C) (slot n : ℕ) (h : core.History) → slot < length made.configs
    → extra (past_of slot h) ≡ core.retired n → readers n (past_of slot h) ≡ 0 → taken_refusal made slot h ≡ None
taken-some made slot n h there own unread = rw (lt-ltb slot (length made.configs) there, own, unread) refl

cause-is : (a b : Refusal) → (let x : Option Refusal = Some a in let y : Option Refusal = Some b in x ≡ y) → a ≡ b
cause-is a b e = cc

module _ {S C W K P : Type 0} (refuses : List Member → C → Option Refusal) (reads ends : K → ℕ → K → Type 0)
    (core_of : P → GroupValue C) (gate_of : P → GateValue)
    (taken : P → ℕ → Result RetiredValue Refusal → P → Type 0) (reported : P → ℕ → PermitValue → P → Type 0)
    (asked : P → ℕ → ℕ → Result (Ask S C W) Refusal → P → Type 0)
    (published : P → BuiltValue C → Publication → P → Type 0) (failed : P → RefusedValue C → ℕ → P → Type 0)
    (taken_is : (p : P) (s : ℕ) (a : Result RetiredValue Refusal) (q : P) → taken p s a q → IsTaken (core_of p) s a (core_of q)
    × (gate_of q ≡ gate_of p))
    (reported_is : (p : P) (s : ℕ) (x : PermitValue) (q : P) → reported p s x q
    → Becomes (core_of p) (in_group (core.At s core.Destroyed ∷ [])) (core_of q) × ((gate_of q).out ≡ false))
    (asked_is : (p : P) (s now : ℕ) (a : Result (Ask S C W) Refusal) (q : P) → asked p s now a q
    → IsAsked (core_of p) (gate_of p) s now a (core_of q) (gate_of q))
    (published_is : (p : P) (b : BuiltValue C) (u : Publication) (q : P) → published p b u q
    → IsPublished (core_of p) b (Ok u) (core_of q))
    (failed_is : (p : P) (r : RefusedValue C) (now : ℕ) (q : P) → failed p r now q
    → Becomes (core_of p) (in_group (core.At r.task.slot (core.Failed now r.task.members) ∷ [])) (core_of q))
    (slot : ℕ) where
  module _ (made : Made C) (e : History) (due : IsDue made e slot) (bare : extra (past_of slot (slot_events e)) ≡ nothing) where
    abbrev Events : core.History
    Events = slot_events e

    abbrev Before : core.History
    Before = past_of slot Events

    -- what the job came to
    flown : (j : Task C) (now : ℕ) (p q : P) (k l : K) (t : Turn) → IsJob made Events slot j
        → Stands made (At slot (Granted now) ∷ e) (core_of p)
        → Publishes refuses reads ends taken reported asked published failed slot j p k t q l
        ⊎ Fails refuses reads ends taken reported asked published failed slot j p k t q l
        → EndsTurn made e slot (Ok t) (core_of q)
    flown j now p q k l t is s (inl (fine, end, m, u, out, what)) =
        let given = published_is p _ u q out in
        let h : core.History = core.At slot (Granted now) ∷ Events in
        let right : publish_answer slot (newest Events) h ≡ told.Published (newest Events) = rw (
          past-same slot (Granted now) Events,
          due.live,
        ) refl in
        let answer : u ≡ told.Published (newest Events) =
        (given.answers made (At slot (Granted now) ∷ e) s).1
        ∙ subst (λ (x : ℕ). publish_answer x j.generation h ≡ told.Published (newest Events)) (sym is.place)
        (subst (λ (x : ℕ). publish_answer slot x h ≡ told.Published (newest Events)) (sym is.generation) right) in
        let stands : Stands made (At j.slot (core.Published end j.members) ∷ At slot (Granted now) ∷ e) (core_of q) =
        subst (λ (x : Publication). Stands made (in_group (publish_events (record { task = j; ended = end }) (Ok x)) ++
        (At slot (Granted now) ∷ e)) (core_of q)) answer
        (given.stands made (At slot (Granted now) ∷ e) s) in (
          At slot (core.Published end j.members) ∷ At slot (Granted now) ∷ e,
          subst (λ (x : ℕ). Stands made (At x (core.Published end j.members) ∷ At slot (Granted now) ∷ e) (core_of q)) is.place stands,
          refl,
          inl (
            ap (λ (x : Turn). Ok x) (what ∙ ap turn_of answer),
            rw (past-same slot (core.Published end j.members) h, past-same slot (Granted now) Events) (newest-past slot Events),
          ),
        )
    flown j now p q k l t is s (inr (end, m, r, out, same, cause, what)) =
        let h : core.History = core.At slot (Granted now) ∷ Events in
        let stands : Stands made (At j.slot (core.Failed end j.members) ∷ At slot (Granted now) ∷ e) (core_of q) =
        subst (λ (x : Task C). Stands made (At x.slot (core.Failed end x.members) ∷ At slot (Granted now) ∷ e) (core_of q)) same
        (failed_is p r end q out made (At slot (Granted now) ∷ e) s) in (
          At slot (core.Failed end j.members) ∷ At slot (Granted now) ∷ e,
          subst (λ (x : ℕ). Stands made (At x (core.Failed end j.members) ∷ At slot (Granted now) ∷ e) (core_of q)) is.place stands,
          refl,
          inr (
            r.refusal,
            (
              ap (λ (x : Turn). Ok x) (what ∙ ap (λ (n : ℕ). turn.Failed n r.refusal) is.generation),
              rw (past-same slot (core.Failed end j.members) h, past-same slot (Granted now) Events) refl,
            ),
          ),
        )

    -- a slot that is due answers a job at a free gate
    job-now : (now : ℕ) (out : Bool) → out ≡ false → nat_lt now (due_moment Before) ≡ false → ask_answer Before out now ≡ job
    job-now now out free late =
        job-if (is_cancelled Before) (is_flight (extra Before)) (waits Before) (nat_lt now (due_moment Before))
        (out || is_extra (extra Before)) (due_moment Before)
        (cancelled-past slot Events ∙ due.live) (ap is_flight bare) due.waits late
        (or-neither out (is_extra (extra Before)) free (ap is_extra bare))

    -- before it is due, it answers when it is
    early-now : (now : ℕ) (out : Bool) → nat_lt now (due_moment Before) ≡ true → ask_answer Before out now ≡ not_due (due_moment Before)
    early-now now out early =
        early-if (is_cancelled Before) (is_flight (extra Before)) (waits Before) (nat_lt now (due_moment Before))
        (out || is_extra (extra Before)) (due_moment Before)
        (cancelled-past slot Events ∙ due.live) (ap is_flight bare) due.waits early

    answered : (now : ℕ) (m n q : P) (k l : K) (a : Result (Ask S C W) Refusal) (r : Result Turn Refusal) → Stands made e (core_of m)
        → ask_answer Before (gate_of m).out now ≡ job → IsAsked (core_of m) (gate_of m) slot now a (core_of n) (gate_of n)
        → Answered refuses reads ends taken reported asked published failed slot a n k r q l → EndsTurn made e slot r (core_of q)
    answered now m n q k l (Err x) r s is_job given next = let past = (given.answers made e s).1 in let there = due.there
        in absurd (omega (arith, past, there))
    answered now m n q k l (Ok asks.Cancelled) r s is_job given next = let told_ = (given.answers made e s).1 in absurd (cc)
    answered now m n q k l (Ok asks.Building) r s is_job given next = let told_ = (given.answers made e s).1 in absurd (cc)
    answered now m n q k l (Ok asks.Nothing) r s is_job given next = let told_ = (given.answers made e s).1 in absurd (cc)
    answered now m n q k l (Ok (asks.NotDue x)) r s is_job given next = let told_ = (given.answers made e s).1 in absurd (cc)
    answered now m n q k l (Ok asks.Busy) r s is_job given next = let told_ = (given.answers made e s).1 in absurd (cc)
    answered now m n q k l (Ok (asks.Job j)) (Ok t) s is_job given next =
        flown j now n q k l t (given.answers made e s).2 (given.stands made e s) next
    answered now m n q k l (Ok (asks.Job j)) (Err x) s is_job given next = absurd next

    waited : (now d : ℕ) (m n q : P) (k l : K) (a : Result (Ask S C W) Refusal) (r : Result Turn Refusal) → Stands made e (core_of m)
        → ask_answer Before (gate_of m).out now ≡ not_due d → IsAsked (core_of m) (gate_of m) slot now a (core_of n) (gate_of n)
        → Answered refuses reads ends taken reported asked published failed slot a n k r q l → r ≡ Ok (turn.NotDue d)
    waited now d m n q k l (Err x) r s waits_ given next = let past = (given.answers made e s).1 in let there = due.there
        in absurd (omega (arith, past, there))
    waited now d m n q k l (Ok asks.Cancelled) r s waits_ given next = let told_ = (given.answers made e s).1 in absurd (cc)
    waited now d m n q k l (Ok asks.Building) r s waits_ given next = let told_ = (given.answers made e s).1 in absurd (cc)
    waited now d m n q k l (Ok asks.Nothing) r s waits_ given next = let told_ = (given.answers made e s).1 in absurd (cc)
    waited now d m n q k l (Ok (asks.NotDue x)) r s waits_ given next =
        let told_ : not_due x ≡ not_due d = (given.answers made e s).1 ∙ waits_ in
        let when : x ≡ d = cc in next.0 ∙ ap (λ (y : ℕ). Ok (turn.NotDue y)) when
    waited now d m n q k l (Ok asks.Busy) r s waits_ given next = let told_ = (given.answers made e s).1 in absurd (cc)
    waited now d m n q k l (Ok (asks.Job j)) r s waits_ given next = let told_ = (given.answers made e s).1 in absurd (cc)

    asks_then : (m q : P) (k l : K) (r : Result Turn Refusal) → Stands made e (core_of m) → (gate_of m).out ≡ false
        → Asks refuses reads ends taken reported asked published failed slot m k r q l → EndsDue reads k made e slot r (core_of q)
    asks_then m q k l r s free (now, z, read, a, n, out, next) = (now, (z, (read, timed (nat_lt now (due_moment Before)) refl)))
      where
        timed : (b : Bool) → nat_lt now (due_moment Before) ≡ b
            → MatchBool b (r ≡ Ok (turn.NotDue (due_moment Before))) (EndsTurn made e slot r (core_of q))
        timed true early =
            waited now (due_moment Before) m n q z l a r s (early-now now (gate_of m).out early) (asked_is m slot now a n out) next
        timed false late = answered now m n q z l a r s (job-now now (gate_of m).out free late) (asked_is m slot now a n out) next

    -- nothing is there to take out
    bare_ends : (p m q : P) (k l : K) (a : Result RetiredValue Refusal) (r : Result Turn Refusal) → Stands made e (core_of p)
        → (gate_of p).out ≡ false → IsTaken (core_of p) slot a (core_of m) × (gate_of m ≡ gate_of p)
        → Clears refuses reads ends taken reported asked published failed slot a m k r q l → EndsDue reads k made e slot r (core_of q)
    bare_ends p m q k l (Ok v) r s free given next =
        let none : taken_refusal made slot Events ≡ None = (given.0.answers made e s).0 in
        let some = taken-none made slot Events due.there bare in absurd (cc)
    bare_ends p m q k l (Err x) r s free given next =
        let cause : x ≡ refusal.NothingRetired =
        cause-is x refusal.NothingRetired (sym (given.0.answers made e s) ∙ taken-none made slot Events due.there bare) in
        let asks_ : Clears refuses reads ends taken reported asked published failed slot (Err refusal.NothingRetired) m k r q l =
        subst (λ (y : Refusal). Clears refuses reads ends taken reported asked published failed slot (Err y) m k r q l) cause next in
        asks_then m q k l r (given.0.stands made e s) (ap (λ (g : GateValue). g.out) given.1 ∙ free) asks_

  module _ (made : Made C) (e : History) (due : IsDue made e slot) (n : ℕ) (own : extra (past_of slot (slot_events e)) ≡ core.retired n)
      (unread : readers n (past_of slot (slot_events e)) ≡ 0) where
    -- the history after the retired selector is destroyed
    abbrev Cleared : History
    Cleared = At slot core.Destroyed ∷ At slot core.TakenOut ∷ e

    past-cleared : past_of slot (slot_events Cleared)
        ≡ core.At slot core.Destroyed ∷ core.At slot core.TakenOut ∷ past_of slot (slot_events e)
    past-cleared =
        past-same slot core.Destroyed (core.At slot core.TakenOut ∷ slot_events e)
        ∙ ap (λ (h : core.History). core.At slot core.Destroyed ∷ h) (past-same slot core.TakenOut (slot_events e))

    due-cleared : IsDue made Cleared slot
    due-cleared = record { there = due.there; live = due.live; waits = rw past-cleared (rw own at due.waits) }

    bare-cleared : extra (past_of slot (slot_events Cleared)) ≡ nothing
    bare-cleared = rw past-cleared refl

    -- it is taken out, and reported destroyed
    own_ends : (p m q : P) (k l : K) (a : Result RetiredValue Refusal) (r : Result Turn Refusal) → Stands made e (core_of p)
        → IsTaken (core_of p) slot a (core_of m) × (gate_of m ≡ gate_of p)
        → Clears refuses reads ends taken reported asked published failed slot a m k r q l → EndsDue reads k made e slot r (core_of q)
    own_ends p m q k l (Ok v) r s given (t, told_, next) =
        let is = reported_is m slot (owed_of v) t told_ in
        let stands : Stands made Cleared (core_of t) = is.0 made (At slot core.TakenOut ∷ e) (given.0.stands made e s) in
        rw past-cleared at (asks_then made Cleared due-cleared bare-cleared t q k l r stands is.1 next)
    own_ends p m q k l (Err x) r s given next =
        let some : taken_refusal made slot (slot_events e) ≡ Some x = given.0.answers made e s in
        let none = taken-some made slot n (slot_events e) due.there own unread in absurd (cc)

  turn_ends : (made : Made C) (e : History) (p q : P) (k l : K) (r : Result Turn Refusal) → Stands made e (core_of p) → IsDue made e slot
      → (is_extra (extra (past_of slot (slot_events e))) ≡ true → (gate_of p).out ≡ true) → IsClear (gate_of p) e slot
      → Turned refuses reads ends taken reported asked published failed slot p k r q l → EndsDue reads k made e slot r (core_of q)
  turn_ends made e p q k l r s due out (inl free) (a, m, told_, next) =
      bare_ends made e due (bare-at-free (extra (past_of slot (slot_events e))) (gate_of p).out out free) p m q k l a r s free
      (taken_is p slot a m told_) next
  turn_ends made e p q k l r s due out (inr (n, (own, unread))) (a, m, told_, next) =
      own_ends made e due n own unread p m q k l a r s (taken_is p slot a m told_) next

  pub due_ends : (p q : P) (k l : K) (r : Result Turn Refusal)
      → After (core_of p) (λ made e. IsDue made e slot × IsClear (gate_of p) e slot)
      → After (core_of p) (λ made e. slot < length made.configs → is_extra (extra (past_of slot (slot_events e))) ≡ true
      → (gate_of p).out ≡ true)
      → Turned refuses reads ends taken reported asked published failed slot p k r q l
      → After (core_of p) (λ made e. EndsDue reads k made e slot r (core_of q))
  due_ends p q k l r due out turned = λ made e s.
      let is = due made e s in
      turn_ends made e p q k l r s is.0 (out made e s is.0.there) is.1 turned
