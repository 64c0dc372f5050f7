-- The ledger balances after every past that can be, and each job that has not ended is the one extra of its slot.
use Rattle.std.proofs.Common.{◌≡◌, ◌<◌, ◌≤◌, ◌+◌, ℕ, Bool, true, false, cond, max, nat_lt, ◌&&◌, [], ◌∷◌, refl, ap, subst, arith}
use Rattle.std.proofs.lemmas.Bool.{lt-ltb}
use Rattle.lb_rebuild_core.specs.SlotsHistory.{Granted, Failed, Published, Abandoned, WorkerLost, TakenOut, Destroyed, Scheduled}
use Rattle.lb_rebuild_core.specs.SlotsHistory.{Cancelled, At, History, newest, granted, served, Extra, nothing, flight, lost, retired}
use Rattle.lb_rebuild_core.specs.SlotsHistory.{taken_out, is_flight, is_extra, is_under_way, is_retired_of, is_taken_out, flight_number}
use Rattle.lb_rebuild_core.specs.SlotsHistory.{generation_of, extra, published, coalesced, superseded, IsPast}
use Rattle.lb_rebuild_core.specs.Laws.{number, Balanced, grants, endings, Accounted}
use Rattle.lb_rebuild_core.proofs.Pasts.{UnderWayFits, under-way-fits, granted-newest, served-granted, lt-false}

-- the parts of the ledger, over plain numbers: publications, coalesced, superseded, and a test
counted : (q : Bool) (n p c u : ℕ) → n ≡ p + c + u + number q + 1 → n ≡ p + c + cond q (u + 1) u + 1 + 0
counted true n p c u h = omega arith
counted false n p c u h = omega arith

came : (q : Bool) (n p c u f : ℕ) → n ≡ p + c + u + number q + f → n + 1 ≡ p + cond q (c + 1) c + u + 1 + f
came true n p c u f h = omega arith
came false n p c u f h = omega arith

greater : (s g n : ℕ) → s < g → nat_lt (max s g) n ≡ nat_lt g n
greater s g n h = let m : max s g ≡ g = omega arith in ap (λ (k : ℕ). nat_lt k n) m

alone : (s n : ℕ) → s < n → nat_lt (max s 0) n ≡ true
alone s n h = lt-ltb (max s 0) n (omega arith)

-- a flight or a lost flight ends unpublished
ended : (n p c u s g : ℕ) (e : Extra) → is_under_way g e ≡ true → UnderWayFits s g e → g ≤ n
    → n ≡ p + c + u + number (nat_lt (max s (flight_number e)) n) + number (is_flight e)
    → n ≡ p + c + cond (is_flight e && nat_lt (flight_number e) n) (u + 1) u + number (nat_lt (max s 0) n) + 0
ended n p c u s g nothing up fits in_ h = absurd (cc)
ended n p c u s g (flight m) up fits in_ h =
    let same : m ≡ g = fits.0 in
    let above : s < m = fits.1 in
    rw (alone s n (omega arith)) (counted (nat_lt m n) n p c u (rw (greater s m n above) at h))
ended n p c u s g (lost m) up fits in_ h =
    let same : m ≡ g = fits.0 in
    let above : s < m = fits.1 in
    h
ended n p c u s g (retired m) up fits in_ h = absurd (cc)
ended n p c u s g (taken_out m) up fits in_ h = absurd (cc)

-- a flight is lost
worker_gone : (n p c u s g : ℕ) (e : Extra) → is_flight e ≡ true → UnderWayFits s g e → g ≤ n
    → n ≡ p + c + u + number (nat_lt (max s (flight_number e)) n) + number (is_flight e)
    → n ≡ p + c + cond (is_flight e && nat_lt (flight_number e) n) (u + 1) u + number (nat_lt (max s 0) n) + 0
worker_gone n p c u s g nothing up fits in_ h = absurd (cc)
worker_gone n p c u s g (flight m) up fits in_ h =
    let same : m ≡ g = fits.0 in
    let above : s < m = fits.1 in
    rw (alone s n (omega arith)) (counted (nat_lt m n) n p c u (rw (greater s m n above) at h))
worker_gone n p c u s g (lost m) up fits in_ h = absurd (cc)
worker_gone n p c u s g (retired m) up fits in_ h = absurd (cc)
worker_gone n p c u s g (taken_out m) up fits in_ h = absurd (cc)

-- a flight is published
served_now : (n p c u s g : ℕ) (e : Extra) → is_flight e ≡ true → UnderWayFits s g e
    → n ≡ p + c + u + number (nat_lt (max s (flight_number e)) n) + number (is_flight e)
    → n ≡ p + 1 + c + u + number (nat_lt (max g 0) n) + 0
served_now n p c u s g nothing up fits h = absurd (cc)
served_now n p c u s g (flight m) up fits h =
    let same : m ≡ g = fits.0 in
    let above : s < m = fits.1 in
    let now_is : nat_lt (max g 0) n ≡ nat_lt m n = ap (λ (k : ℕ). nat_lt k n) (let e : max g 0 ≡ m = omega arith in e) in
    let before : n ≡ p + c + u + number (nat_lt m n) + 1 = rw (greater s m n above) at h in
    rw now_is (omega (arith, before))
served_now n p c u s g (lost m) up fits h = absurd (cc)
served_now n p c u s g (retired m) up fits h = absurd (cc)
served_now n p c u s g (taken_out m) up fits h = absurd (cc)

-- a job is granted
flown : (n p c u s : ℕ) (e : Extra) → e ≡ nothing → nat_lt (max s (flight_number e)) n ≡ true
    → n ≡ p + c + u + number (nat_lt (max s (flight_number e)) n) + number (is_flight e)
    → n ≡ p + c + u + number (nat_lt (max s n) n) + 1
flown n p c u s e none w h =
    let before : n ≡ p + c + u + number (nat_lt (max s (flight_number nothing)) n) + number (is_flight nothing) =
    subst (λ (x : Extra). n ≡ p + c + u + number (nat_lt (max s (flight_number x)) n) + number (is_flight x)) none h in
    let due : nat_lt (max s (flight_number nothing)) n ≡ true = subst (λ (x : Extra). nat_lt (max s (flight_number x)) n ≡ true) none w in
    let then_ : n ≡ p + c + u + 1 + 0 = rw due at before in
    rw (lt-false (max s n) n (omega arith)) (omega (arith, then_))

-- a membership comes
scheduled : (n p c u s g : ℕ) (e : Extra) → s ≤ g → g ≤ n → UnderWayFits s g e
    → n ≡ p + c + u + number (nat_lt (max s (flight_number e)) n) + number (is_flight e)
    → n + 1 ≡ p + cond (nat_lt (max s (flight_number e)) n) (c + 1) c + u + number (nat_lt (max s (flight_number e)) (n + 1)) + number
    (is_flight e)
scheduled n p c u s g e below in_ fits h =
    rw (lt-ltb (max s (flight_number e)) (n + 1) (flies_in s g n e below in_ fits))
    (came (nat_lt (max s (flight_number e)) n) n p c u (number (is_flight e)) h)
  where
    flies_in : (s g n : ℕ) (e : Extra) → s ≤ g → g ≤ n → UnderWayFits s g e → max s (flight_number e) < n + 1
    flies_in s g n nothing below in_ fits = omega arith
    flies_in s g n (flight m) below in_ fits = let same : m ≡ g = fits.0 in omega arith
    flies_in s g n (lost m) below in_ fits = omega arith
    flies_in s g n (retired m) below in_ fits = omega arith
    flies_in s g n (taken_out m) below in_ fits = omega arith

-- what is there without being a flight changes nothing
no_flight : (n r s : ℕ) (e : Extra) → is_flight e ≡ false
    → n ≡ r + number (nat_lt (max s (flight_number e)) n) + number (is_flight e) → n ≡ r + number (nat_lt (max s 0) n) + 0
no_flight n r s nothing out h = h
no_flight n r s (flight m) out h = absurd (cc)
no_flight n r s (lost m) out h = h
no_flight n r s (retired m) out h = h
no_flight n r s (taken_out m) out h = h

retired_grounded : (n : ℕ) (e : Extra) → is_retired_of n e ≡ true → is_flight e ≡ false
retired_grounded n nothing h = refl
retired_grounded n (flight m) h = absurd (cc)
retired_grounded n (lost m) h = refl
retired_grounded n (retired m) h = refl
retired_grounded n (taken_out m) h = refl

out_grounded : (e : Extra) → is_taken_out e ≡ true → is_flight e ≡ false
out_grounded nothing h = refl
out_grounded (flight m) h = absurd (cc)
out_grounded (lost m) h = refl
out_grounded (retired m) h = refl
out_grounded (taken_out m) h = refl

pub balanced : (h : History) → IsPast h → Balanced h
balanced [] p = refl
balanced (Scheduled ms now ∷ h) p =
    scheduled (newest h) (published h) (coalesced h) (superseded h) (served h) (granted h) (extra h) (served-granted h) (granted-newest h)
    (under-way-fits h p.0) (balanced h p.0)
balanced (Cancelled ∷ h) p = balanced h p
balanced (At i (Granted now) ∷ h) p = flown (newest h) (published h) (coalesced h) (superseded h) (served h) (extra h) p.1.0 p.1.1
    (balanced h p.0)
balanced (At i (Failed now ms) ∷ h) p =
    ended (newest h) (published h) (coalesced h) (superseded h) (served h) (granted h) (extra h) p.1 (under-way-fits h p.0)
    (granted-newest h) (balanced h p.0)
balanced (At i (Published at_ ms) ∷ h) p =
    served_now (newest h) (published h) (coalesced h) (superseded h) (served h) (granted h) (extra h) p.1.0 (under-way-fits h p.0)
    (balanced h p.0)
balanced (At i (Abandoned ms) ∷ h) p =
    ended (newest h) (published h) (coalesced h) (superseded h) (served h) (granted h) (extra h) p.1 (under-way-fits h p.0)
    (granted-newest h) (balanced h p.0)
balanced (At i WorkerLost ∷ h) p =
    worker_gone (newest h) (published h) (coalesced h) (superseded h) (served h) (granted h) (extra h) p.1 (under-way-fits h p.0)
    (granted-newest h) (balanced h p.0)
balanced (At i TakenOut ∷ h) p =
    no_flight (newest h) (published h + coalesced h + superseded h) (served h) (extra h)
    (retired_grounded (generation_of (extra h)) (extra h) p.1.0) (balanced h p.0)
balanced (At i Destroyed ∷ h) p =
    no_flight (newest h) (published h + coalesced h + superseded h) (served h) (extra h) (out_grounded (extra h) p.1) (balanced h p.0)
balanced (At i e ∷ h) p = balanced h p.0

-- what an extra adds to the account
under_way_counts : (n : ℕ) (e : Extra) → is_under_way n e ≡ true → number (is_extra e) ≡ 1
under_way_counts n nothing h = absurd (cc)
under_way_counts n (flight m) h = refl
under_way_counts n (lost m) h = refl
under_way_counts n (retired m) h = refl
under_way_counts n (taken_out m) h = refl

flight_counts : (e : Extra) → is_flight e ≡ true → number (is_extra e) ≡ 1
flight_counts nothing h = absurd (cc)
flight_counts (flight m) h = refl
flight_counts (lost m) h = refl
flight_counts (retired m) h = refl
flight_counts (taken_out m) h = refl

retired_counts : (n : ℕ) (e : Extra) → is_retired_of n e ≡ true → number (is_extra e) ≡ 1
retired_counts n nothing h = absurd (cc)
retired_counts n (flight m) h = refl
retired_counts n (lost m) h = refl
retired_counts n (retired m) h = refl
retired_counts n (taken_out m) h = refl

out_counts : (e : Extra) → is_taken_out e ≡ true → number (is_extra e) ≡ 1
out_counts nothing h = absurd (cc)
out_counts (flight m) h = refl
out_counts (lost m) h = refl
out_counts (retired m) h = refl
out_counts (taken_out m) h = refl

pub accounted : (h : History) → IsPast h → Accounted h
accounted [] p = refl
accounted (Scheduled ms now ∷ h) p = accounted h p.0
accounted (Cancelled ∷ h) p = accounted h p
accounted (At i (Granted now) ∷ h) p =
    let none : number (is_extra (extra h)) ≡ 0 = ap (λ (x : Extra). number (is_extra x)) p.1.0 in
    let ih : grants h ≡ endings h + number (is_extra (extra h)) = accounted h p.0 in
    omega (arith, none, ih)
accounted (At i (Failed now ms) ∷ h) p =
    let ih : grants h ≡ endings h + number (is_extra (extra h)) = accounted h p.0
    in omega (arith, under_way_counts (granted h) (extra h) p.1, ih)
accounted (At i (Published at_ ms) ∷ h) p =
    let ih : grants h ≡ endings h + number (is_extra (extra h)) = accounted h p.0 in omega (arith, flight_counts (extra h) p.1.0, ih)
accounted (At i (Abandoned ms) ∷ h) p =
    let ih : grants h ≡ endings h + number (is_extra (extra h)) = accounted h p.0
    in omega (arith, under_way_counts (granted h) (extra h) p.1, ih)
accounted (At i WorkerLost ∷ h) p =
    let ih : grants h ≡ endings h + number (is_extra (extra h)) = accounted h p.0 in omega (arith, flight_counts (extra h) p.1, ih)
accounted (At i TakenOut ∷ h) p =
    let ih : grants h ≡ endings h + number (is_extra (extra h)) = accounted h p.0
    in omega (arith, retired_counts (generation_of (extra h)) (extra h) p.1.0, ih)
accounted (At i Destroyed ∷ h) p =
    let ih : grants h ≡ endings h + number (is_extra (extra h)) = accounted h p.0 in omega (arith, out_counts (extra h) p.1, ih)
accounted (At i e ∷ h) p = accounted h p.0
