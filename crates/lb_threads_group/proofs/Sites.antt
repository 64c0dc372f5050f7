-- What runs over a port whose calls leave one part of it tells the same of what they tell of in that part.
use Rattle.std.specs.Prelude.{◌≡◌, ℕ, Bool, List, [], ◌∷◌, Option, Result, Ok, Err, refl}
use Rattle.std.proofs.Common.{sym, ap, subst, ◌∙◌, inl, inr}
use Rattle.lb_select_base.specs.Backends.{Member}
use Rattle.lb_select_base.specs.Draws.{Draw}
use Rattle.lb_select_base.specs.declared.refusal.Refusal.{Refusal}
use Rattle.lb_rebuild_core.specs.Values.{ReaderValue}
use Rattle.lb_rebuild_core.specs.declared.membership.Scheduled.{Scheduled}
use Rattle.lb_balancer_core.specs.Looks.{Look, drew, told, Looks, SelectsBy}
use Rattle.lb_balancer_core.specs.Through.{UpdatedBy, UpdatedThrough}

module _ {K D P X V : Type 0} (whole : P → X) (core : X → V) (reads : K → ℕ → K → Type 0)
    (finds : D → Result (List Member × List (Member × Bool)) Refusal → Type 0)
    (Done : V → List Member → List (Member × Bool) → ℕ → Result Scheduled Refusal → Type 0) where
  abbrev part : P → V
  part p = core (whole p)

  updated_by : (k : K) (p : P) (f : Result (List Member × List (Member × Bool)) Refusal) (r : Result ℕ Refusal) (l : K) (q : P)
      → UpdatedBy reads finds (λ p ms settings now a q. Done (part p) ms settings now a × (whole q ≡ whole p)) k p f r l q
      → UpdatedBy reads finds (λ v ms settings now a w. Done v ms settings now a × (w ≡ v)) k (part p) f r l (part p)
  updated_by k p (Ok f) r l q (now, read, a, done, is) = (now, read, a, (done.0, refl), is)
  updated_by k p (Err e) r l q (is, clock, same) = (is, clock, refl)

  -- an update by a port that tells of its group alone
  pub updated_at : (d : D) (k : K) (p : P) (r : Result ℕ Refusal) (l : K) (q : P)
      → UpdatedThrough reads finds (λ p ms settings now a q. Done (part p) ms settings now a × (whole q ≡ whole p)) d k p r l q
      → UpdatedThrough reads finds (λ v ms settings now a w. Done v ms settings now a × (w ≡ v)) d k (part p) r l (part p)
  updated_at d k p r l q (start, m, read, f, found, by) = (start, m, read, f, found, updated_by m p f r l q by)

module _ {C P X V : Type 0} (whole : P → X) (core : X → V) (Ready : V → ReaderValue C → Member → Bool → Type 0) where
  abbrev of_port : P → V
  of_port p = core (whole p)

  abbrev pub Drawing : P → ReaderValue C → Draw → P → Type 0
  Drawing p r d q = whole q ≡ whole p

  abbrev pub Asking : P → ReaderValue C → Member → Bool → P → Type 0
  Asking p r b a q = Ready (of_port p) r b a × (whole q ≡ whole p)

  looks_at : (r : ReaderValue C) (p : P) (ls : List Look) (q : P) → Looks Drawing Asking r p ls q
      → Looks (λ v r d w. w ≡ v) (λ v r b a w. Ready v r b a × (w ≡ v)) r (of_port p) ls (of_port q)
  looks_at r p [] q is = ap of_port is
  looks_at r p (drew d ∷ ls) q (m, is, rest) = (of_port m, ap core is, looks_at r m ls q rest)
  looks_at r p (told b a ∷ ls) q (m, is, rest) = (of_port m, (is.0, ap core is.1), looks_at r m ls q rest)

  looks_stay : (r : ReaderValue C) (p : P) (ls : List Look) (q : P) → Looks Drawing Asking r p ls q → whole q ≡ whole p
  looks_stay r p [] q is = ap whole (sym is)
  looks_stay r p (drew d ∷ ls) q (m, is, rest) = looks_stay r m ls q rest ∙ is
  looks_stay r p (told b a ∷ ls) q (m, is, rest) = looks_stay r m ls q rest ∙ is.1

  module _ (accepts : Member → Bool → Bool → Type 0) (limit : ℕ) where
    selects_at : (walks : List Draw → List Member → Bool → Type 0) (p : P) (r : ReaderValue C) (o : Result (Option Member) Refusal) (q : P)
        → SelectsBy accepts limit Drawing Asking walks p r o q
        → SelectsBy accepts limit (λ v r d w. w ≡ v) (λ v r b a w. Ready v r b a × (w ≡ v)) walks (of_port p) r o (of_port q)
    selects_at walks p r (Ok o) q (ls, looks, cs, ended, walked, is) = (ls, looks_at r p ls q looks, cs, ended, walked, is)
    selects_at walks p r (Err e) q (memory, inl same) = (memory, inl (ap of_port same))
    selects_at walks p r (Err e) q (memory, inr (ls, looks, cs, walked, fits, is)) =
        (memory, inr (ls, looks_at r p ls q looks, cs, walked, fits, is))

    selects_stay : (walks : List Draw → List Member → Bool → Type 0) (p : P) (r : ReaderValue C) (o : Result (Option Member) Refusal)
        (q : P)
        → SelectsBy accepts limit Drawing Asking walks p r o q → whole q ≡ whole p
    selects_stay walks p r (Ok o) q (ls, looks, cs, ended, walked, is) = looks_stay r p ls q looks
    selects_stay walks p r (Err e) q (memory, inl same) = ap whole same
    selects_stay walks p r (Err e) q (memory, inr (ls, looks, cs, walked, fits, is)) = looks_stay r p ls q looks

    -- a selection for a reader, by a port that tells of its group alone
    pub selects_here : (walks : List Draw → List Member → Bool → Type 0) (p : P) (r : ReaderValue C) (o : Result (Option Member) Refusal)
        (q : P)
        → SelectsBy accepts limit Drawing Asking walks p r o q
        → SelectsBy accepts limit (λ v r d w. w ≡ v) (λ v r b a w. Ready v r b a × (w ≡ v)) walks (of_port p) r o (of_port p)
    selects_here walks p r o q is =
        subst (λ v. SelectsBy accepts limit (λ v r d w. w ≡ v) (λ v r b a w. Ready v r b a × (w ≡ v)) walks (of_port p) r o v)
        (ap core (selects_stay walks p r o q is)) (selects_at walks p r o q is)
