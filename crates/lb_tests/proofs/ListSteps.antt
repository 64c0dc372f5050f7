-- Steps of a walk over a list: at a place of the list, and past its end.
use Rattle.std.proofs.Common.{◌≡◌, ℕ, ◌+◌, ◌<◌, ◌≤◌, suc, zero, true, List, [], ◌∷◌, length, drop, refl, ap, arith}
use Rattle.std.proofs.lemmas.List.{drop_all}
use Rattle.std.specs.List.{slice_get}
use Rattle.lb_select_base.specs.Backends.{Member}
use Rattle.lb_tests.specs.ListWalks.{IsListWalk, IsListStep}

-- nothing is left of a list past its end
pub list_over : (ms : List Member) (at : ℕ) → length ms ≤ at → IsListWalk (drop at ms) [] [] true
list_over ms at h = rw (drop_all at ms h) record { undrawn = refl; rest = []; given = refl; end = λ e. refl }

-- a step at a place of the list
pub list_step : (ms : List Member) (at : ℕ) → at < length ms → IsListStep ms at (slice_get ms at) (at + 1)
list_step [] at h = absurd (omega (arith, h))
list_step (m ∷ ms) zero h = λ ds cs e w. record { undrawn = w.undrawn; rest = w.rest; given = ap (λ x. m ∷ x) w.given; end = w.end }
list_step (m ∷ ms) (suc at) h =
    let next : suc at + 1 ≡ suc (at + 1) = omega arith in
    let lt : at < length ms = omega (arith, h) in
    rw next (list_step ms at lt)
