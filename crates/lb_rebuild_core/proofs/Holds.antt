-- A view holds each snapshot as often as the slots of its group have the generation in use.
use Rattle.std.proofs.Common.{arith, ◌≡◌, ◌≤◌, ◌<◌, ◌+◌, ◌-◌, ◌^◌, ◌==◌, ◌∙◌, ℕ, zero, suc, Bool, true, false, cond, nat_lt, List, [], ◌∷◌}
use Rattle.std.proofs.Common.{◌++◌, replicate, refl, sym, ap, subst, inl, inr}
use Rattle.std.proofs.lemmas.Bool.{eqb-true, eq-eqb, ne_eqb, ltb-true}
use Rattle.std.specs.Prelude.{All, ◌||◌, if◌then◌else◌}
use mathlib.Core.Logic.{dite}
use native.Mathlib.Decide.{ℕ_discrete}
use Rattle.lb_select_base.specs.Backends.{Member}
use Rattle.lb_rebuild_core.specs.SlotsHistory as slots
use Rattle.lb_rebuild_core.specs.SlotsHistory.{past_of, newest, served, granted, extra, Extra, nothing, flight, lost, retired, taken_out}
use Rattle.lb_rebuild_core.specs.SlotsHistory.{is_extra, is_retired_of, generation_of, readers, IsPast, IsSlotsHistory, MayHappen}
use Rattle.lb_rebuild_core.specs.Laws.{number}
use Rattle.lb_rebuild_core.proofs.Pasts.{past-same, newest-past, not-below, read_nowhere}
use Rattle.lb_health_view.specs.Views.{IsViewAfter}
use Rattle.lb_health_view.specs.Snapshots.{SnapshotValue, ViewValue, held_more, held_less, at_generation, living}
use Rattle.lb_health_view.specs.ViewEvents as view
use Rattle.lb_health_view.specs.ViewEvents.{ViewEvent, generation_after, snapshots_after, new_snapshot, by_age}
use Rattle.lb_health_view.specs.RegistrySide.{lives}
use Rattle.lb_rebuild_core.specs.GroupHistory.{History, Shown, Set, Cancelled, At, slot_events, view_events, slot_holds, over_slots}
use Rattle.lb_rebuild_core.specs.GroupHistory.{holders}
use Rattle.lb_rebuild_core.specs.GroupLaws.{IsInUse, IsLive}
use Rattle.lb_rebuild_core.proofs.Counting.{sums-same, sums-at, sums-beyond, sums-quiet, sums-few, sums-some}
use Rattle.lb_rebuild_core.proofs.Histories.{generation-is}
use Rattle.lb_rebuild_core.proofs.GroupSlots.{granted-holds, failed-holds, destroyed-holds, published-holds, abandoned-holds, lost-holds}
use Rattle.lb_rebuild_core.proofs.GroupSlots.{taken-holds, holds-few, serves-holds, extra-holds}
use Rattle.lb_rebuild_core.proofs.Totals.{total, holds, one, total-by_age, total-living, fewer-living, total-other, total-one, total-more}
use Rattle.lb_rebuild_core.proofs.Totals.{total-less, held-lives, holds-within}

-- the current snapshot lives
lives-at : (g n : ℕ) (change : SnapshotValue → SnapshotValue) → ((s : SnapshotValue) → (change s).generation ≡ s.generation)
    → (ss : List SnapshotValue)
    → lives n (at_generation g change ss) ≡ lives n ss
lives-at g n change same [] = refl
lives-at g n change same (s ∷ ss) =
    elim (s.generation == g) as (λ b. lives n (if b then change s ∷ ss else s ∷ at_generation g change ss) ≡
    ((s.generation == n) || lives n ss)) [
      | true ↦ ap (λ k. (k == n) || lives n ss) (same s)
      | false ↦ ap (λ b. (s.generation == n) || b) (lives-at g n change same ss)
    ]

lives-living : (c : ℕ) (ss : List SnapshotValue) → lives c ss ≡ true → lives c (living c ss) ≡ true
lives-living c [] l = l
lives-living c (s ∷ ss) l =
    elim (s.generation == c) as (λ b. (s.generation == c) ≡ b → (b || lives c ss) ≡ true
    → lives c (cond (b || nat_lt 0 s.holds) (s ∷ living c ss) (living c ss)) ≡ true) [
      | true ↦ λ e t. rw e refl
      | false ↦ λ e t. elim (nat_lt 0 s.holds) as (λ b. lives c (cond b (s ∷ living c ss) (living c ss)) ≡ true)
          [ true ↦ rw e (lives-living c ss t) | false ↦ lives-living c ss t ]
    ] refl l

pub current-lives : (views : List ViewEvent) → lives (generation_after views) (snapshots_after views) ≡ true
current-lives [] = refl
current-lives (view.Shown ms cells ∷ v) = rw (eq-eqb (generation_after v + 1) (generation_after v + 1) refl) refl
current-lives (view.Set b on ∷ v) = current-lives v
current-lives (view.Held g ∷ v) = lives-at g (generation_after v) held_more (λ s. refl) (snapshots_after v) ∙ current-lives v
current-lives (view.Released g ∷ v) =
    lives-living (generation_after v) (at_generation g held_less (snapshots_after v))
    (lives-at g (generation_after v) held_less (λ s. refl) (snapshots_after v) ∙ current-lives v)

-- a hold more or less of one generation, for each
more-at : (g n : ℕ) (ss : List SnapshotValue) → lives g ss ≡ true → total holds n (at_generation g held_more ss) ≡ total holds n ss + number
    (g == n)
more-at g n ss l =
    dite (ℕ_discrete g n)
    (λ at. subst (λ (k : ℕ). total holds k (at_generation g held_more ss) ≡ total holds k ss + number (g == k)) at
    (rw (eq-eqb g g refl) (total-more g ss l)))
    (λ apart. rw (ne_eqb g n apart) (let same = total-other holds held_more (λ s. refl) g n ss apart in omega (arith, same)))

less-at : (g n : ℕ) (ss : List SnapshotValue) → total one g ss ≤ 1
    → total holds n (at_generation g held_less ss) ≡ total holds n ss - number (g == n)
less-at g n ss few =
    dite (ℕ_discrete g n)
    (λ at. subst (λ (k : ℕ). total holds k (at_generation g held_less ss) ≡ total holds k ss - number (g == k)) at
    (rw (eq-eqb g g refl) (total-less g ss few)))
    (λ apart. rw (ne_eqb g n apart) (let same = total-other holds held_less (λ s. refl) g n ss apart in omega (arith, same)))

-- The view is at generation m, holds each generation so often, and has no generation twice and none to come.
pub record Counts (m : ℕ) (c : ℕ → ℕ) (views : List ViewEvent) : Type 0 where
  pub generation : generation_after views ≡ m
  pub held : (n : ℕ) → total holds n (snapshots_after views) ≡ c n
  pub few : (n : ℕ) → total one n (snapshots_after views) ≤ 1
  pub ahead : (n : ℕ) → m < n → total one n (snapshots_after views) ≡ 0

counts-as : (m : ℕ) (c d : ℕ → ℕ) (views : List ViewEvent) → Counts m c views → ((n : ℕ) → c n ≡ d n) → Counts m d views
counts-as m c d views is same = record { generation = is.generation; held = λ n. is.held n ∙ same n; few = is.few; ahead = is.ahead }

abbrev first : ℕ → SnapshotValue
first k = record { generation = 0; members = []; cells = []; holds = k }

first-snapshots : (k : ℕ) → snapshots_after (replicate k (view.Held 0)) ≡ first k ∷ []
first-snapshots zero = refl
first-snapshots (suc k) =
    ap (at_generation 0 held_more) (first-snapshots k) ∙ ap (λ (q : ℕ). first q ∷ []) (let more : k + 1 ≡ suc k = omega arith in more)

counts-first : (k : ℕ) → Counts 0 (λ n. cond (0 == n) k 0) (replicate k (view.Held 0))
counts-first k = record {
  generation = zero-generation k;
  held = λ n. ap (total holds n) (first-snapshots k) ∙ elim (0 == n) as (λ b. cond b (k + 0) 0 ≡ cond b k 0) [
    | true ↦ omega arith
    | false ↦ refl
  ];
  few = λ n.
      let at : total one n (snapshots_after (replicate k (view.Held 0))) ≡ cond (0 == n) (1 + 0) 0 = ap (total one n) (first-snapshots k) in
      let low : cond (0 == n) (1 + 0) 0 ≤ 1 = elim (0 == n) as (λ b. cond b (1 + 0) 0 ≤ 1) [ true ↦ omega arith | false ↦ omega arith ] in
      omega (arith, at, low);
  ahead = λ n above. ap (total one n) (first-snapshots k) ∙ rw (ne_eqb 0 n (λ e. omega arith)) refl;
}
  where
    zero-generation : (j : ℕ) → generation_after (replicate j (view.Held 0)) ≡ 0
    zero-generation zero = refl
    zero-generation (suc j) = zero-generation j

counts-shown : (m : ℕ) (c : ℕ → ℕ) (views : List ViewEvent) (ms : List Member) (cells : List (Member × ℕ)) → Counts m c views
    → Counts (m + 1) c (view.Shown ms cells ∷ views)
counts-shown m c views ms cells is = record {
  generation = ap (λ n. n + 1) is.generation;
  held = λ n. elim (generation_after views + 1 == n) as (λ b. cond b (0 + total holds n rest) (total holds n rest) ≡ c n)
      [ true ↦ let same = kept n in omega (arith, same) | false ↦ kept n ];
  few = λ n. elim (generation_after views + 1 == n) as (λ b. (generation_after views + 1 == n) ≡ b
      → cond b (1 + total one n rest) (total one n rest) ≤ 1) [
        | true ↦ λ e.
            let at : generation_after views + 1 ≡ n = eqb-true (generation_after views + 1) n e in
            let none : total one n (snapshots_after views) ≡ 0 = is.ahead n (omega (arith, is.generation, at)) in
            omega (arith, none, fewer n)
        | false ↦ λ e. omega (arith, fewer n, is.few n)
      ] refl;
  ahead = λ n above.
      let none : total one n (snapshots_after views) ≡ 0 = is.ahead n (omega arith) in
      rw (ne_eqb (generation_after views + 1) n (λ e. omega (arith, e, is.generation, above))) (omega (arith, none, fewer n));
}
  where
    rest : List SnapshotValue
    rest = living (generation_after views + 1) (by_age (snapshots_after views))

    kept : (n : ℕ) → total holds n rest ≡ c n
    kept n = total-living (generation_after views + 1) n (by_age (snapshots_after views)) ∙ total-by_age holds n (snapshots_after views)
        ∙ is.held n

    fewer : (n : ℕ) → total one n rest ≤ total one n (snapshots_after views)
    fewer n =
        let less = fewer-living (generation_after views + 1) n (by_age (snapshots_after views)) in
        let same = total-by_age one n (snapshots_after views) in
        omega (arith, less, same)

counts-held : (m g : ℕ) (c d : ℕ → ℕ) (views : List ViewEvent) → Counts m c views → g ≡ m → ((n : ℕ) → d n ≡ c n + number (g == n))
    → Counts m d (view.Held g ∷ views)
counts-held m g c d views is at more =
    let there : lives g (snapshots_after views) ≡ true = subst (λ (k : ℕ). lives k (snapshots_after views) ≡ true) (is.generation ∙ sym at)
    (current-lives views) in
    record {
      generation = is.generation;
      held = λ n. let now = more-at g n (snapshots_after views) there in omega (arith, now, is.held n, more n);
      few = λ n. let same = total-one held_more (λ s. refl) g n (snapshots_after views) in omega (arith, same, is.few n);
      ahead = λ n above. total-one held_more (λ s. refl) g n (snapshots_after views) ∙ is.ahead n above;
    }

counts-released : (m g : ℕ) (c d : ℕ → ℕ) (views : List ViewEvent) → Counts m c views → ((n : ℕ) → c n ≡ d n + number (g == n))
    → Counts m d (view.Released g ∷ views)
counts-released m g c d views is less = record {
  generation = is.generation;
  held = λ n.
      let lives_ = total-living (generation_after views) n (at_generation g held_less (snapshots_after views)) in
      let now = less-at g n (snapshots_after views) (is.few g) in
      omega (arith, lives_, now, is.held n, less n);
  few = λ n. omega (arith, fewer n, is.few n);
  ahead = λ n above. let none = is.ahead n above in omega (arith, none, fewer n);
}
  where
    fewer : (n : ℕ) → total one n (living (generation_after views) (at_generation g held_less (snapshots_after views))) ≤ total one n
        (snapshots_after views)
    fewer n =
        let low = fewer-living (generation_after views) n (at_generation g held_less (snapshots_after views)) in
        let same = total-one held_less (λ s. refl) g n (snapshots_after views) in
        omega (arith, low, same)

counts-set : (m : ℕ) (c : ℕ → ℕ) (views : List ViewEvent) (b : Member) (on : Bool) → Counts m c views → Counts m c (view.Set b on ∷ views)
counts-set m c views b on is = record { generation = is.generation; held = is.held; few = is.few; ahead = is.ahead }

-- at first each slot has generation 0
first-holders : (n a k : ℕ) → over_slots (λ p. slot_holds n p) a k [] ≡ cond (0 == n) k 0
first-holders n a zero = elim (0 == n) as (λ b. ◌≡◌ {A = ℕ} 0 (cond b 0 0)) [ true ↦ refl | false ↦ refl ]
first-holders n a (suc k) =
    let rest = first-holders n (a + 1) k in
    let sum : (number (0 == n) + 0) + over_slots (λ p. slot_holds n p) (a + 1) k [] ≡ (number (0 == n) + 0) + cond (0 == n) k 0 =
    ap (λ (q : ℕ). (number (0 == n) + 0) + q) rest in
    sum ∙ elim (0 == n) as (λ b. (number b + 0) + cond b k 0 ≡ cond b (suc k) 0) [ true ↦ omega arith | false ↦ refl ]

-- the history before an event can be, and so can the event at its slot's past
earlier-of : (i : ℕ) (b : Bool) (j : ℕ) (x : slots.SlotEvent) (p : slots.History) → IsPast (cond b (slots.At j x ∷ p) p) → IsPast p
earlier-of i true j x p past = past.0
earlier-of i false j x p past = past

pub earlier : (x : slots.SlotsEvent) (h : slots.History) → IsSlotsHistory (x ∷ h) → IsSlotsHistory h
earlier (slots.Scheduled ms now) h all i = (all i).0
earlier slots.Cancelled h all i = all i
earlier (slots.At j x) h all i = earlier-of i (j == i) j x (past_of i h) (all i)

pub may-at : (i : ℕ) (x : slots.SlotEvent) (h : slots.History) → IsSlotsHistory (slots.At i x ∷ h) → MayHappen (past_of i h) x
may-at i x h all = (subst (λ (p : slots.History). IsPast p) (past-same i x h) (all i)).1

module _ (k i : ℕ) (h : slots.History) (views : List ViewEvent) (is : Counts (newest h) (λ n. holders n k h) views) where
  -- a slot that has what it had
  still : (x : slots.SlotEvent) → ((n : ℕ) → slot_holds n (slots.At i x ∷ past_of i h) ≡ slot_holds n (past_of i h))
      → Counts (newest h) (λ n. holders n k (slots.At i x ∷ h)) views
  still x same = counts-as (newest h) _ _ views is (λ n. sym (sums-quiet (λ p. slot_holds n p) k i x h (same n)))

  held-once : (x : slots.SlotEvent) (g : ℕ) → g ≡ newest h
      → ((n : ℕ) → slot_holds n (slots.At i x ∷ past_of i h) ≡ slot_holds n (past_of i h) + number (g == n))
      → Counts (newest h) (λ n. holders n k (slots.At i x ∷ h)) ((if nat_lt i k then view.Held g ∷ [] else []) ++ views)
  held-once x g at more =
      elim (nat_lt i k) as (λ b. nat_lt i k ≡ b
      → Counts (newest h) (λ n. holders n k (slots.At i x ∷ h)) ((if b then view.Held g ∷ [] else []) ++ views)) [
        | true ↦ λ e.
            let few : i < k = ltb-true i k e in
            counts-held (newest h) g (λ n. holders n k h) (λ n. holders n k (slots.At i x ∷ h)) views is at
            (λ n. let sum = sums-at (λ p. slot_holds n p) 0 k i x h (omega arith) (omega arith) in omega (arith, sum, more n))
        | false ↦ λ e.
            let many : k ≤ i = not-below i k e in
            counts-as (newest h) _ _ views is (λ n. sym (sums-beyond (λ p. slot_holds n p) 0 k i x h (omega arith)))
      ] refl

  let-go : (x : slots.SlotEvent) (g : ℕ)
      → ((n : ℕ) → slot_holds n (past_of i h) ≡ slot_holds n (slots.At i x ∷ past_of i h) + number (g == n))
      → Counts (newest h) (λ n. holders n k (slots.At i x ∷ h)) ((if nat_lt i k then view.Released g ∷ [] else []) ++ views)
  let-go x g less =
      elim (nat_lt i k) as (λ b. nat_lt i k ≡ b
      → Counts (newest h) (λ n. holders n k (slots.At i x ∷ h)) ((if b then view.Released g ∷ [] else []) ++ views)) [
        | true ↦ λ e.
            let few : i < k = ltb-true i k e in
            counts-released (newest h) g (λ n. holders n k h) (λ n. holders n k (slots.At i x ∷ h)) views is
            (λ n. let sum = sums-at (λ p. slot_holds n p) 0 k i x h (omega arith) (omega arith) in omega (arith, sum, less n))
        | false ↦ λ e.
            let many : k ≤ i = not-below i k e in
            counts-as (newest h) _ _ views is (λ n. sym (sums-beyond (λ p. slot_holds n p) 0 k i x h (omega arith)))
      ] refl

slot-counted : (k i : ℕ) (x : slots.SlotEvent) (e : History) → IsSlotsHistory (slot_events e) → MayHappen (past_of i (slot_events e)) x
    → Counts (newest (slot_events e)) (λ n. holders n k (slot_events e)) (view_events k e)
    → Counts (newest (slot_events e)) (λ n. holders n k (slots.At i x ∷ slot_events e)) (view_events k (At i x ∷ e))
slot-counted k i (slots.Granted now) e all may ih =
    held-once k i (slot_events e) (view_events k e) ih (slots.Granted now) (newest (past_of i (slot_events e)))
    (newest-past i (slot_events e))
    (λ n. granted-holds n i (past_of i (slot_events e)) now may)
slot-counted k i (slots.Failed now ms) e all may ih =
    let-go k i (slot_events e) (view_events k e) ih (slots.Failed now ms) (granted (past_of i (slot_events e)))
    (λ n. failed-holds n i (past_of i (slot_events e)) now ms may)
slot-counted k i slots.Destroyed e all may ih =
    let-go k i (slot_events e) (view_events k e) ih slots.Destroyed (generation_of (extra (past_of i (slot_events e))))
    (λ n. destroyed-holds n i (past_of i (slot_events e)) may)
slot-counted k i (slots.Published ended ms) e all may ih =
    still k i (slot_events e) (view_events k e) ih (slots.Published ended ms) (λ n. published-holds n i (past_of i (slot_events e)) ended ms
    (all i) may)
slot-counted k i (slots.Abandoned ms) e all may ih =
    still k i (slot_events e) (view_events k e) ih (slots.Abandoned ms) (λ n. abandoned-holds n i (past_of i (slot_events e)) ms may)
slot-counted k i slots.WorkerLost e all may ih = still k i (slot_events e) (view_events k e) ih slots.WorkerLost
    (λ n. lost-holds n i (past_of i (slot_events e)) (all i) may)
slot-counted k i slots.TakenOut e all may ih = still k i (slot_events e) (view_events k e) ih slots.TakenOut
    (λ n. taken-holds n i (past_of i (slot_events e)) may)
slot-counted k i slots.Entered e all may ih = still k i (slot_events e) (view_events k e) ih slots.Entered (λ n. refl)
slot-counted k i (slots.Left m) e all may ih = still k i (slot_events e) (view_events k e) ih (slots.Left m) (λ n. refl)
slot-counted k i (slots.Drew t) e all may ih = still k i (slot_events e) (view_events k e) ih (slots.Drew t) (λ n. refl)
slot-counted k i (slots.DrewRetired t) e all may ih = still k i (slot_events e) (view_events k e) ih (slots.DrewRetired t) (λ n. refl)

-- the law: after each history, the view holds each generation as often as the slots have it
pub counted : (k : ℕ) (e : History) → IsSlotsHistory (slot_events e) → Counts (newest (slot_events e)) (λ n. holders n k (slot_events e))
    (view_events k e)
counted k [] all = counts-as 0 _ _ (replicate k (view.Held 0)) (counts-first k) (λ n. sym (first-holders n 0 k))
counted k (Shown ms cells now ∷ e) all =
    let ih = counted k e (earlier (slots.Scheduled ms now) (slot_events e) all) in
    counts-as (newest (slot_events e) + 1) _ _ _ (counts-shown (newest (slot_events e)) _ (view_events k e) ms cells ih)
    (λ n. sym (sums-same (λ p. slot_holds n p) 0 k (slots.Scheduled ms now) (slot_events e) (λ j. refl)))
counted k (Set b on ∷ e) all = counts-set (newest (slot_events e)) _ (view_events k e) b on (counted k e all)
counted k (Cancelled ∷ e) all =
    let ih = counted k e (earlier slots.Cancelled (slot_events e) all) in
    counts-as (newest (slot_events e)) _ _ _ ih (λ n. sym (sums-same (λ p. slot_holds n p) 0 k slots.Cancelled (slot_events e) (λ j. refl)))
counted k (At i x ∷ e) all =
    let before = earlier (slots.At i x) (slot_events e) all in
    slot-counted k i x e before (may-at i x (slot_events e) all) (counted k e before)

-- what some slot has lives
pub newest-live : (k : ℕ) (e : History) → IsLive k (newest (slot_events e)) e
newest-live k e = subst (λ (n : ℕ). lives n (snapshots_after (view_events k e)) ≡ true) (generation-is k e)
    (current-lives (view_events k e))

held-live : (k slot n : ℕ) (e : History) → IsSlotsHistory (slot_events e) → slot < k → 0 < slot_holds n (past_of slot (slot_events e))
    → IsLive k n e
held-live k slot n e all few some =
    let is = counted k e all in
    let sum : slot_holds n (past_of slot (slot_events e)) ≤ holders n k (slot_events e) = sums-some (λ p. slot_holds n p) 0 k slot
    (slot_events e) (omega arith) (omega arith) in
    held-lives n (snapshots_after (view_events k e)) (omega (arith, is.held n, sum, some))

pub used-live : (k slot n : ℕ) (e : History) → IsSlotsHistory (slot_events e) → slot < k → IsInUse slot n e → IsLive k n e
used-live k slot n e all few (inl at) = held-live k slot n e all few (serves-holds n (past_of slot (slot_events e)) at)
used-live k slot n e all few (inr (there, at)) = held-live k slot n e all few (extra-holds n (past_of slot (slot_events e)) there at)

retired-use : (n : ℕ) (e : Extra) → is_retired_of n e ≡ true → (is_extra e ≡ true) × (generation_of e ≡ n)
retired-use n nothing is = absurd (cc)
retired-use n (flight m) is = absurd (cc)
retired-use n (lost m) is = absurd (cc)
retired-use n (retired m) is = (refl, eqb-true m n is)
retired-use n (taken_out m) is = absurd (cc)

-- readers are in what is served or retired
pub read-live : (k slot n : ℕ) (e : History) → IsSlotsHistory (slot_events e) → slot < k → 0 < readers n (past_of slot (slot_events e))
    → IsLive k n e
read-live k slot n e all few some =
    let p : slots.History = past_of slot (slot_events e) in
    dite (ℕ_discrete (served (past_of slot (slot_events e))) n)
    (λ at. used-live k slot n e all few (inl at))
    (λ apart. elim (is_retired_of n (extra (past_of slot (slot_events e)))) as
    (λ b. is_retired_of n (extra (past_of slot (slot_events e))) ≡ b → IsLive k n e) [
      | true ↦ λ is. used-live k slot n e all few (inr (retired-use n (extra (past_of slot (slot_events e))) is))
      | false ↦ λ out.
          let none : readers n (past_of slot (slot_events e)) ≡ 0 = read_nowhere n (past_of slot (slot_events e)) (all slot) apart out in
          absurd (omega (arith, none, some))
    ] refl)

-- a job can be held once more: no snapshot has more holds than there are slots
pub hold-fits : (k i now : ℕ) (e : History) → k < 2 ^ 64 → i < k → IsSlotsHistory (slot_events (At i (slots.Granted now) ∷ e))
    → All (λ (s : SnapshotValue). s.generation ≡ newest (slot_events e) → s.holds + 1 < 2 ^ 64) (snapshots_after (view_events k e))
hold-fits k i now e fits few all j d inside at =
    let h : slots.History = slot_events e in
    let n : ℕ = newest (slot_events e) in
    let before : IsSlotsHistory (slot_events e) = earlier (slots.At i (slots.Granted now)) (slot_events e) all in
    let is = counted k e before in
    let one_ = holds-within (newest (slot_events e)) (snapshots_after (view_events k e)) j d inside at in
    let top : holders (newest (slot_events e)) k (slots.At i (slots.Granted now) ∷ slot_events e) ≤ k =
    sums-few (λ p. slot_holds (newest (slot_events e)) p) 0 k (slots.At i (slots.Granted now) ∷ slot_events e)
    (λ q. holds-few (newest (slot_events e)) (past_of q (slots.At i (slots.Granted now) ∷ slot_events e)) (all q)) in
    let sum = sums-at (λ p. slot_holds (newest (slot_events e)) p) 0 k i (slots.Granted now) (slot_events e) (omega arith) (omega arith) in
    let step : slot_holds (newest (slot_events e)) (slots.At i (slots.Granted now) ∷ past_of i (slot_events e)) ≡ slot_holds
    (newest (slot_events e)) (past_of i (slot_events e)) + number (newest (past_of i (slot_events e)) == newest (slot_events e)) =
    granted-holds (newest (slot_events e)) i (past_of i (slot_events e)) now (may-at i (slots.Granted now) (slot_events e) all) in
    let up : number (newest (past_of i (slot_events e)) == newest (slot_events e)) ≡ 1 =
    rw (eq-eqb (newest (past_of i (slot_events e))) (newest (slot_events e)) (newest-past i (slot_events e))) refl in
    omega (arith, one_, is.held (newest (slot_events e)), top, sum, step, up, fits)

-- while the first holds are made, no snapshot has more than were made
only-first : (j : ℕ) → j + 1 < 2 ^ 64 → All (λ (s : SnapshotValue). s.generation ≡ 0 → s.holds + 1 < 2 ^ 64) (first j ∷ [])
only-first j fits zero d inside at = fits
only-first j fits (suc i) d inside at = absurd (omega arith)

pub first-fits : (j : ℕ) (u : ViewValue) → IsViewAfter (replicate j (view.Held 0)) u → j + 1 < 2 ^ 64
    → All (λ (s : SnapshotValue). s.generation ≡ 0 → s.holds + 1 < 2 ^ 64) u.snapshots
first-fits j u is fits =
    subst (λ (ss : List SnapshotValue). All (λ (s : SnapshotValue). s.generation ≡ 0 → s.holds + 1 < 2 ^ 64) ss)
    (sym (is.snapshots ∙ first-snapshots j)) (only-first j fits)
