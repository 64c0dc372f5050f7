-- The note is one of the notes, and so are those that are left.
use Rattle.std.proofs.Common.{◌≡◌, ◌+◌, ◌-◌, ◌<◌, ◌≢◌, ℕ, List, All, length, rules, slice_index_or, subst, sym, arith}
use Rattle.std.specs.Arc.{arc_value}
use Rattle.std.specs.Vec.{vec_len}
use mathlib.Core.Logic.{dite}
use native.Mathlib.Decide.{ℕ_discrete}
use Rattle.lb_threads_core.specs.Internal.Leaving.{IsNoteOf}
use Rattle.lb_threads_core.proofs.owner.take_gone.Goals as goal

all-left : {X : Type 0} (P : X → Type 0) (xs ys : List X) (n m i : ℕ) → length xs ≡ n → length ys ≡ m → i < n → m + 1 ≡ n
    → ((d : X) → i + 1 < n → slice_index_or ys i d ≡ slice_index_or xs (n - 1) d)
    → ((k : ℕ) (d : X) → k ≢ i → k + 1 < n → slice_index_or ys k d ≡ slice_index_or xs k d) → All P xs → All P ys
all-left P xs ys n m i is-n is-m within shorter there elsewhere all k d below =
    dite (ℕ_discrete k i)
    (λ e. subst (λ j. P (slice_index_or ys j d)) (sym e)
    (subst P (sym (there d (omega (arith, e, below, is-m, shorter)))) (all (n - 1) d (omega (arith, within, is-n)))))
    (λ differ. subst P (sym (elsewhere k d differ (omega (arith, below, is-m, shorter))))
    (all k d (omega (arith, below, is-m, is-n, shorter))))

pub returns-then-load : goal.returns-then-load
returns-then-load c =
    λ is_of all.
    let out = c.swap_remove.ensures in
    let old = c.loop-place.notes.items in
    let new = c.swap_remove.new.self.items in
    let was : length old ≡ vec_len c.loop-place.notes = search rules in
    let is : length new ≡ vec_len c.swap_remove.new.self = search rules in
    let within : c.loop-place.place < vec_len c.loop-place.notes = search rules in
    let has : All (λ n. IsNoteOf is_of (arc_value n)) old = search rules in (
      all-left (λ n. IsNoteOf is_of (arc_value n)) old new (vec_len c.loop-place.notes) (vec_len c.swap_remove.new.self) c.loop-place.place
          was is within out.len out.by_index.0 out.by_index.1 has,
      subst (λ n. IsNoteOf is_of (arc_value n)) (sym out.value)
          (has c.loop-place.place c.swap_remove.result (omega (arith, was, within))),
    )
