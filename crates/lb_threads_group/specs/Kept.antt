-- What the lanes of a slot have, and what a selection in one answers: a reader that entered at some state of the group selects, and is
-- kept for the selections that follow.
use Rattle.std.specs.Prelude.{◌≡◌, ◌⊎◌, ℕ, Bool, List, Option, Result, Ok, IfSome}
use Rattle.std.specs.Arc.{arc_value}
use Rattle.std.specs.declared.sync.Arc.{Arc}
use Rattle.lb_select_base.specs.Backends.{Member}
use Rattle.lb_select_base.specs.Draws.{Draw}
use Rattle.lb_select_base.specs.declared.refusal.Refusal.{Refusal}
use Rattle.lb_rebuild_core.specs.Values.{ReaderValue}
use Rattle.lb_balancer_core.specs.Looks.{SelectsBy, SelectedThrough}
use Rattle.lb_threads_group.specs.Found.{FoundValue}
use Rattle.lb_threads_group.specs.Group.{EnteredUnder, LeftUnder, ReadyUnder}
use Rattle.lb_threads_group.specs.Shared.{SharedValue}

module _ {C R : Type 0} where
  -- a reader that a lane of the slot keeps: it is of this group, and entered the slot at some state of it
  abbrev pub IsKept : SharedValue C R → ℕ → ReaderValue C → Type 0
  IsKept site slot r = (r.group ≡ site.core.group.id) × EnteredUnder site.core slot (Ok r)

  -- the reader of a selection left at some state of the group, or a lane of the slot keeps it
  abbrev pub IsLeftOrKept : SharedValue C R → ℕ → ReaderValue C → Type 0
  IsLeftOrKept site slot r = LeftUnder site.core r ⊎ IsKept site slot r

  -- the words, if there are any, are of this group
  abbrev pub IsFoundOf : {Z : Type 0} → SharedValue C R → Option (Arc (FoundValue C R) Z) → Type 0
  IsFoundOf site found = IfSome found (λ f. (arc_value f).site ≡ site)

  -- the rule of the lanes of a slot: what each of them has
  abbrev pub IsEntry : {Z : Type 0} → SharedValue C R → ℕ → ReaderValue C → Option (Arc (FoundValue C R) Z) → Type 0
  IsEntry site slot r found = IsKept site slot r × IsFoundOf site found

module _ {C R : Type 0} (gives : R → Member → Member → Type 0) (accepts : Member → Bool → Bool → Type 0) (limit : ℕ)
    (walks : List Member → C → List ℕ → List Draw → List Member → Bool → Type 0) (key : List ℕ) (site : SharedValue C R) where
  -- a selection for a reader, with the readiness that was read, at some states of the group
  abbrev pub SelectsUnder : ReaderValue C → Result (Option Member) Refusal → Type 0
  SelectsUnder r o =
      SelectsBy accepts limit (λ v r d w. w ≡ v) (λ v r b a w. ReadyUnder gives v r b a × (w ≡ v)) (walks r.members r.config key) site r o
      site

  -- A selection: a reader entered the slot, readiness was read for it, and it left or is kept in a lane, each at some state of the group.
  -- The worker that publishes fills other lanes of its slot, and empties these, so that a reader which is kept leaves then, or, where its
  -- lane is read, when what is retired is taken out after that.
  abbrev pub SelectedFrom : ℕ → Result (Option Member) Refusal → Type 0
  SelectedFrom slot o =
      SelectedThrough accepts limit (λ v r d w. w ≡ v) (λ v r b a w. ReadyUnder gives v r b a × (w ≡ v))
      (λ v slot a w. EnteredUnder v.core slot a × (w ≡ v)) (λ v r w. IsLeftOrKept v slot r × (w ≡ v)) walks key site slot o site
