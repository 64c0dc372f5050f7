-- How often a slot has a generation, before and after an event at it.
use Rattle.std.proofs.Common.{arith, ◌≡◌, ◌≤◌, ◌<◌, ◌+◌, ◌==◌, ◌&&◌, ◌∙◌, ℕ, Bool, true, false, ◌∷◌, refl, sym, ap}
use Rattle.std.proofs.lemmas.Bool.{eqb-true, eq-eqb}
use Rattle.lb_rebuild_core.specs.SlotsHistory.{Granted, Failed, Published, Abandoned, WorkerLost, TakenOut, Destroyed, At, History, newest}
use Rattle.lb_rebuild_core.specs.SlotsHistory.{granted, served, Extra, nothing, flight, lost, retired, taken_out, is_flight, is_extra}
use Rattle.lb_rebuild_core.specs.SlotsHistory.{is_under_way, is_retired_of, is_taken_out, generation_of, extra, IsPast, MayHappen}
use Rattle.lb_rebuild_core.specs.Laws.{number}
use Rattle.lb_rebuild_core.proofs.Pasts.{UnderWayFits, under-way-fits}
use Rattle.lb_rebuild_core.specs.GroupHistory.{slot_holds}

-- the same of a served generation and of what else is there
abbrev pub here : ℕ → ℕ → Extra → ℕ
here n s e = number (s == n) + number (is_extra e && (generation_of e == n))

none-of : (n s : ℕ) (e : Extra) → e ≡ nothing → here n s e ≡ number (s == n) + 0
none-of n s e is = ap (here n s) is

up-of : (n s g : ℕ) (e : Extra) → is_under_way g e ≡ true → here n s e ≡ number (s == n) + number (g == n)
up-of n s g nothing up = absurd (cc)
up-of n s g (flight m) up = ap (λ k. number (s == n) + number (k == n)) (eqb-true m g up)
up-of n s g (lost m) up = ap (λ k. number (s == n) + number (k == n)) (eqb-true m g up)
up-of n s g (retired m) up = absurd (cc)
up-of n s g (taken_out m) up = absurd (cc)

flies-of : (n s g : ℕ) (e : Extra) → is_flight e ≡ true → UnderWayFits s g e → here n s e ≡ number (s == n) + number (g == n)
flies-of n s g nothing up fits = absurd (cc)
flies-of n s g (flight m) up fits = ap (λ k. number (s == n) + number (k == n)) fits.0
flies-of n s g (lost m) up fits = absurd (cc)
flies-of n s g (retired m) up fits = absurd (cc)
flies-of n s g (taken_out m) up fits = absurd (cc)

retired-of : (n s : ℕ) (e : Extra) → is_retired_of (generation_of e) e ≡ true → here n s (taken_out (generation_of e)) ≡ here n s e
retired-of n s nothing is = absurd (cc)
retired-of n s (flight m) is = absurd (cc)
retired-of n s (lost m) is = absurd (cc)
retired-of n s (retired m) is = refl
retired-of n s (taken_out m) is = absurd (cc)

out-of : (n s : ℕ) (e : Extra) → is_taken_out e ≡ true → here n s e ≡ number (s == n) + number (generation_of e == n)
out-of n s nothing is = absurd (cc)
out-of n s (flight m) is = absurd (cc)
out-of n s (lost m) is = absurd (cc)
out-of n s (retired m) is = absurd (cc)
out-of n s (taken_out m) is = refl

module _ (n i : ℕ) (p : History) where
  -- a job holds its generation once more
  pub granted-holds : (now : ℕ) → MayHappen p (Granted now) → slot_holds n (At i (Granted now) ∷ p) ≡ slot_holds n p + number
      (newest p == n)
  granted-holds now may = let before = none-of n (served p) (extra p) may.0 in omega (arith, before)

  -- its failure holds it once less
  pub failed-holds : (now : ℕ) (ms : _) → MayHappen p (Failed now ms) → slot_holds n p ≡ slot_holds n (At i (Failed now ms) ∷ p) + number
      (granted p == n)
  failed-holds now ms may = let before = up-of n (served p) (granted p) (extra p) may in omega (arith, before)

  -- and so does the report that what was taken out is destroyed
  pub destroyed-holds : MayHappen p Destroyed → slot_holds n p ≡ slot_holds n (At i Destroyed ∷ p) + number (generation_of (extra p) == n)
  destroyed-holds may = let before = out-of n (served p) (extra p) may in omega (arith, before)

  -- what else happens moves a generation from one place to another
  pub published-holds : (ended : ℕ) (ms : _) → IsPast p → MayHappen p (Published ended ms)
      → slot_holds n (At i (Published ended ms) ∷ p) ≡ slot_holds n p
  published-holds ended ms past may = let before = flies-of n (served p) (granted p) (extra p) may.0 (under-way-fits p past)
      in omega (arith, before)

  pub abandoned-holds : (ms : _) → MayHappen p (Abandoned ms) → slot_holds n (At i (Abandoned ms) ∷ p) ≡ slot_holds n p
  abandoned-holds ms may = sym (up-of n (served p) (granted p) (extra p) may)

  pub lost-holds : IsPast p → MayHappen p WorkerLost → slot_holds n (At i WorkerLost ∷ p) ≡ slot_holds n p
  lost-holds past may = sym (flies-of n (served p) (granted p) (extra p) may (under-way-fits p past))

  pub taken-holds : MayHappen p TakenOut → slot_holds n (At i TakenOut ∷ p) ≡ slot_holds n p
  taken-holds may = retired-of n (served p) (extra p) may.0

-- what a slot serves is never what else is in it
both : (n s m : ℕ) (a b : Bool) → ((a ≡ true) → s ≡ n) → ((b ≡ true) → m ≡ n) → ¬ (m ≡ s) → number a + number b ≤ 1
both n s m true true p q apart = absurd (apart (q refl ∙ sym (p refl)))
both n s m true false p q apart = omega arith
both n s m false true p q apart = omega arith
both n s m false false p q apart = omega arith

single : (n s : ℕ) → number (s == n) + 0 ≤ 1
single n s = elim (s == n) as (λ b. number b + 0 ≤ 1) [ true ↦ omega arith | false ↦ omega arith ]

few-of : (n s g : ℕ) (e : Extra) → UnderWayFits s g e → here n s e ≤ 1
few-of n s g nothing fits = single n s
few-of n s g (flight m) fits = let up : s < m = fits.1 in both n s m (s == n) (m == n) (eqb-true s n) (eqb-true m n) (λ at. omega arith)
few-of n s g (lost m) fits = let up : s < m = fits.1 in both n s m (s == n) (m == n) (eqb-true s n) (eqb-true m n) (λ at. omega arith)
few-of n s g (retired m) fits = both n s m (s == n) (m == n) (eqb-true s n) (eqb-true m n) fits
few-of n s g (taken_out m) fits = both n s m (s == n) (m == n) (eqb-true s n) (eqb-true m n) fits

pub holds-few : (n : ℕ) (p : History) → IsPast p → slot_holds n p ≤ 1
holds-few n p past = few-of n (served p) (granted p) (extra p) (under-way-fits p past)

-- a slot that has a generation in use has it at least once
pub serves-holds : (n : ℕ) (p : History) → served p ≡ n → 0 < slot_holds n p
serves-holds n p at = rw (eq-eqb (served p) n at) (omega arith)

pub extra-holds : (n : ℕ) (p : History) → is_extra (extra p) ≡ true → generation_of (extra p) ≡ n → 0 < slot_holds n p
extra-holds n p there at = rw (there, eq-eqb (generation_of (extra p)) n at) (omega arith)
