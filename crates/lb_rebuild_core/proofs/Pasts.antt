-- Laws of pasts: what a slot's past says of its group, and which numbers fit together. Each is an induction over the events.
use Rattle.std.proofs.Common.{◌≡◌, ◌<◌, ◌≤◌, ◌+◌, ◌-◌, ◌==◌, ◌∙◌, ℕ, Bool, true, false, cond, max, nat_lt, [], ◌∷◌, refl, sym, ap, subst}
use Rattle.std.proofs.Common.{arith}
use Rattle.std.proofs.lemmas.Bool.{ltb-true, eqb-false, eq-eqb, ne_eqb}
use Rattle.std.proofs.lemmas.Bool.Decides.{nat_tests}
use mathlib.Core.Logic.{dite}
use native.Mathlib.Decide.{ℕ_discrete}
use Rattle.lb_rebuild_core.specs.SlotsHistory.{SlotEvent, Granted, Failed, Published, Abandoned, WorkerLost, TakenOut, Destroyed, Entered}
use Rattle.lb_rebuild_core.specs.SlotsHistory.{Left, Drew, DrewRetired, SlotsEvent, Scheduled, Cancelled, At, History, past_of, newest}
use Rattle.lb_rebuild_core.specs.SlotsHistory.{members_of, scheduled_at, is_cancelled, granted, served, Extra, nothing, flight, lost}
use Rattle.lb_rebuild_core.specs.SlotsHistory.{retired, taken_out, is_flight, is_under_way, is_retired_of, is_taken_out, flight_number}
use Rattle.lb_rebuild_core.specs.SlotsHistory.{generation_of, extra, readers, failures, failed_at, IsPast}

-- what an event does not change is the same whether or not the event is there
keeps : {T : Type 0} (f : History → T) (b : Bool) (e : SlotsEvent) (p : History) → f (e ∷ p) ≡ f p → f (cond b (e ∷ p) p) ≡ f p
keeps f true e p same = same
keeps f false e p same = refl

-- a past says of the group what the group's history says
pub newest-past : (i : ℕ) (h : History) → newest (past_of i h) ≡ newest h
newest-past i [] = refl
newest-past i (Scheduled ms now ∷ h) = ap (λ n. n + 1) (newest-past i h)
newest-past i (Cancelled ∷ h) = newest-past i h
newest-past i (At j e ∷ h) = keeps newest (j == i) (At j e) (past_of i h) refl ∙ newest-past i h

pub members-past : (n i : ℕ) (h : History) → members_of n (past_of i h) ≡ members_of n h
members-past n i [] = refl
members-past n i (Scheduled ms now ∷ h) = rw (newest-past i h, members-past n i h) refl
members-past n i (Cancelled ∷ h) = members-past n i h
members-past n i (At j e ∷ h) = keeps (members_of n) (j == i) (At j e) (past_of i h) refl ∙ members-past n i h

pub scheduled-past : (n i : ℕ) (h : History) → scheduled_at n (past_of i h) ≡ scheduled_at n h
scheduled-past n i [] = refl
scheduled-past n i (Scheduled ms now ∷ h) = rw (newest-past i h, scheduled-past n i h) refl
scheduled-past n i (Cancelled ∷ h) = scheduled-past n i h
scheduled-past n i (At j e ∷ h) = keeps (scheduled_at n) (j == i) (At j e) (past_of i h) refl ∙ scheduled-past n i h

pub cancelled-past : (i : ℕ) (h : History) → is_cancelled (past_of i h) ≡ is_cancelled h
cancelled-past i [] = refl
cancelled-past i (Scheduled ms now ∷ h) = cancelled-past i h
cancelled-past i (Cancelled ∷ h) = refl
cancelled-past i (At j e ∷ h) = keeps is_cancelled (j == i) (At j e) (past_of i h) refl ∙ cancelled-past i h

-- what happens at a slot joins its past, and no other
pub past-same : (i : ℕ) (e : SlotEvent) (h : History) → past_of i (At i e ∷ h) ≡ At i e ∷ past_of i h
past-same i e h = rw (eq-eqb i i refl) refl

pub past-other : (i j : ℕ) (e : SlotEvent) (h : History) → ¬ (j ≡ i) → past_of i (At j e ∷ h) ≡ past_of i h
past-other i j e h apart = rw (ne_eqb j i apart) refl

-- tests on numbers
pub lt-false : (a b : ℕ) → b ≤ a → nat_lt a b ≡ false
lt-false a b h = grind (arith, nat_tests)

pub not-below : (a b : ℕ) → nat_lt a b ≡ false → b ≤ a
not-below a b h = grind (arith, nat_tests)

pub eq-none : {A : Type 0} (a b : ℕ) (x y : A) → a < b → cond (a == b) x y ≡ y
eq-none a b x y h = rw (ne_eqb a b (λ e. omega arith)) refl

-- the last job is not past the newest generation, and what is served not past the last job
pub granted-newest : (h : History) → granted h ≤ newest h
granted-newest [] = omega arith
granted-newest (Scheduled ms now ∷ h) = let ih = granted-newest h in omega arith
granted-newest (At i (Granted now) ∷ h) = omega arith
granted-newest (e ∷ h) = granted-newest h

pub served-granted : (h : History) → served h ≤ granted h
served-granted [] = omega arith
served-granted (At i (Granted now) ∷ h) = omega (arith, served-granted h, granted-newest h)
served-granted (At i (Published ended ms) ∷ h) = omega arith
served-granted (e ∷ h) = served-granted h

-- A flight or a lost flight is the last job and above what is served; what is retired or taken out is not what is served.
abbrev pub UnderWayFits : ℕ → ℕ → Extra → Type 0
UnderWayFits s g nothing = Unit {0}
UnderWayFits s g (flight n) = (n ≡ g) × (s < n)
UnderWayFits s g (lost n) = (n ≡ g) × (s < n)
UnderWayFits s g (retired n) = ¬ (n ≡ s)
UnderWayFits s g (taken_out n) = ¬ (n ≡ s)

pub flies : (s g : ℕ) (e : Extra) → is_flight e ≡ true → UnderWayFits s g e → s < g
flies s g nothing e f = absurd (cc)
flies s g (flight n) e f = let same : n ≡ g = f.0 in let above : s < n = f.1 in omega arith
flies s g (lost n) e f = absurd (cc)
flies s g (retired n) e f = absurd (cc)
flies s g (taken_out n) e f = absurd (cc)

pub is_up : (s g : ℕ) (e : Extra) → is_under_way g e ≡ true → UnderWayFits s g e → s < g
is_up s g nothing e f = absurd (cc)
is_up s g (flight n) e f = let same : n ≡ g = f.0 in let above : s < n = f.1 in omega arith
is_up s g (lost n) e f = let same : n ≡ g = f.0 in let above : s < n = f.1 in omega arith
is_up s g (retired n) e f = absurd (cc)
is_up s g (taken_out n) e f = absurd (cc)

waits-above : (s n : ℕ) (e : Extra) → e ≡ nothing → nat_lt (max s (flight_number e)) n ≡ true → s < n
waits-above s n e none w =
    let below : nat_lt (max s 0) n ≡ true = sym (ap (λ (x : Extra). nat_lt (max s (flight_number x)) n) none) ∙ w in
    let less : max s 0 < n = ltb-true (max s 0) n below in
    omega arith

went-out : (s g : ℕ) (e : Extra) → is_retired_of (generation_of e) e ≡ true → UnderWayFits s g e → ¬ (generation_of e ≡ s)
went-out s g nothing e f = absurd (cc)
went-out s g (flight n) e f = absurd (cc)
went-out s g (lost n) e f = absurd (cc)
went-out s g (retired n) e f = f
went-out s g (taken_out n) e f = absurd (cc)

pub under-way-fits : (h : History) → IsPast h → UnderWayFits (served h) (granted h) (extra h)
under-way-fits [] p = tt
under-way-fits (Scheduled ms now ∷ h) p = under-way-fits h p.0
under-way-fits (Cancelled ∷ h) p = under-way-fits h p
under-way-fits (At i (Granted now) ∷ h) p = (refl, waits-above (served h) (newest h) (extra h) p.1.0 p.1.1)
under-way-fits (At i (Failed now ms) ∷ h) p = tt
under-way-fits (At i (Published ended ms) ∷ h) p =
    let up : served h < granted h = flies (served h) (granted h) (extra h) p.1.0 (under-way-fits h p.0) in
    λ e. omega arith
under-way-fits (At i (Abandoned ms) ∷ h) p =
    let up : served h < granted h = is_up (served h) (granted h) (extra h) p.1 (under-way-fits h p.0) in
    λ e. omega arith
under-way-fits (At i WorkerLost ∷ h) p = (refl, flies (served h) (granted h) (extra h) p.1 (under-way-fits h p.0))
under-way-fits (At i TakenOut ∷ h) p = went-out (served h) (granted h) (extra h) p.1.0 (under-way-fits h p.0)
under-way-fits (At i Destroyed ∷ h) p = tt
under-way-fits (At i e ∷ h) p = under-way-fits h p.0

-- nobody reads what was not served yet
less-none : (b : Bool) (r : ℕ) → r ≡ 0 → cond b (r - 1) r ≡ 0
less-none true r h = omega arith
less-none false r h = h

pub unread : (n : ℕ) (h : History) → served h < n → readers n h ≡ 0
unread n [] above = refl
unread n (At i (Published ended ms) ∷ h) above = unread n h (omega (arith, above, served-granted h))
unread n (At i Entered ∷ h) above = eq-none (served h) n (readers n h + 1) (readers n h) above ∙ unread n h above
unread n (At i (Left m) ∷ h) above = less-none (n == m) (readers n h) (unread n h above)
unread n (e ∷ h) above = unread n h above

-- readers are in what is served and in what is retired, and nowhere else
unretired : (n g : ℕ) (e : Extra) → is_under_way g e ≡ true → is_retired_of n e ≡ false
unretired n g nothing h = refl
unretired n g (flight m) h = refl
unretired n g (lost m) h = refl
unretired n g (retired m) h = absurd (cc)
unretired n g (taken_out m) h = refl

unretired_flight : (n : ℕ) (e : Extra) → is_flight e ≡ true → is_retired_of n e ≡ false
unretired_flight n nothing h = refl
unretired_flight n (flight m) h = refl
unretired_flight n (lost m) h = refl
unretired_flight n (retired m) h = absurd (cc)
unretired_flight n (taken_out m) h = refl

unretired_out : (n : ℕ) (e : Extra) → is_taken_out e ≡ true → is_retired_of n e ≡ false
unretired_out n nothing h = refl
unretired_out n (flight m) h = refl
unretired_out n (lost m) h = refl
unretired_out n (retired m) h = absurd (cc)
unretired_out n (taken_out m) h = refl

other_retired : (n : ℕ) (e : Extra) → ¬ (generation_of e ≡ n) → is_retired_of n e ≡ false
other_retired n nothing h = refl
other_retired n (flight m) h = refl
other_retired n (lost m) h = refl
other_retired n (retired m) h = ne_eqb m n h
other_retired n (taken_out m) h = refl

pub read_nowhere : (n : ℕ) (h : History) → IsPast h → ¬ (served h ≡ n) → is_retired_of n (extra h) ≡ false → readers n h ≡ 0
read_nowhere n [] p apart out = refl
read_nowhere n (Scheduled ms now ∷ h) p apart out = read_nowhere n h p.0 apart out
read_nowhere n (Cancelled ∷ h) p apart out = read_nowhere n h p apart out
read_nowhere n (At i (Granted now) ∷ h) p apart out = read_nowhere n h p.0 apart (ap (is_retired_of n) p.1.0)
read_nowhere n (At i (Failed now ms) ∷ h) p apart out = read_nowhere n h p.0 apart (unretired n (granted h) (extra h) p.1)
read_nowhere n (At i (Published ended ms) ∷ h) p apart out = read_nowhere n h p.0 (eqb-false (served h) n out)
    (unretired_flight n (extra h) p.1.0)
read_nowhere n (At i (Abandoned ms) ∷ h) p apart out = read_nowhere n h p.0 apart (unretired n (granted h) (extra h) p.1)
read_nowhere n (At i WorkerLost ∷ h) p apart out = read_nowhere n h p.0 apart (unretired_flight n (extra h) p.1)
read_nowhere n (At i TakenOut ∷ h) p apart out =
    dite (ℕ_discrete (generation_of (extra h)) n)
    (λ at. subst (λ (m : ℕ). readers m h ≡ 0) at p.1.1)
    (λ other. read_nowhere n h p.0 apart (other_retired n (extra h) other))
read_nowhere n (At i Destroyed ∷ h) p apart out = read_nowhere n h p.0 apart (unretired_out n (extra h) p.1)
read_nowhere n (At i Entered ∷ h) p apart out = rw (ne_eqb (served h) n apart) (read_nowhere n h p.0 apart out)
read_nowhere n (At i (Left m) ∷ h) p apart out = less-none (n == m) (readers n h) (read_nowhere n h p.0 apart out)
read_nowhere n (At i (Drew t) ∷ h) p apart out = read_nowhere n h p.0 apart out
read_nowhere n (At i (DrewRetired t) ∷ h) p apart out = read_nowhere n h p.0 apart out

-- no generation that is still to come has failed, or has a moment
pub unfailed : (n : ℕ) (h : History) → newest h < n → (failures n h ≡ 0) × (failed_at n h ≡ 0)
unfailed n [] above = (refl, refl)
unfailed n (Scheduled ms now ∷ h) above = unfailed n h (omega arith)
unfailed n (At i (Failed now ms) ∷ h) above =
    let ih = unfailed n h above in
    let early : granted h < n = omega (arith, above, granted-newest h) in
    (eq-none (granted h) n (failures n h + 1) (failures n h) early ∙ ih.0, eq-none (granted h) n now (failed_at n h) early ∙ ih.1)
unfailed n (e ∷ h) above = unfailed n h above
