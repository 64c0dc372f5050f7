-- A pass of checks: the cells of its targets are kept all the while.
use Rattle.std.proofs.Common.{◌≡◌, inl, inr, ℕ, List, [], ◌∷◌, Option, Some, None, refl}
use Rattle.std.specs.List.{filter_map, cons_option}
use Rattle.std.specs.Option.{option_map}
use Rattle.lb_select_base.specs.Backends.{Member, same_member}
use Rattle.lb_health_core.specs.declared.targets.TargetPlace.{TargetPlace}
use Rattle.lb_health_core.specs.declared.targets.Target.{Target}
use Rattle.lb_health_core.specs.Registry.{target_at, targets_after}
use Rattle.lb_health_core.specs.RegistryEvents.{Event, Observed, changes_after, views_after, cell_health}
use Rattle.lb_health_core.specs.Starts.{cell_now}
use Rattle.lb_health_core.specs.Targets.{targets_in}
use Rattle.lb_health_core.specs.Verdicts.{Verdict}
use Rattle.lb_health_view.specs.Passes.{Reaches, AreKept}

-- a verdict keeps and forgets no cell
still_kept :
    (key_of : Member → Member) (cell : ℕ) (v : Verdict) (events : List Event) (targets : List Target)
    → AreKept key_of targets events → AreKept key_of targets (Observed cell v ∷ events)
still_kept key_of cell v events [] kept = tt
still_kept key_of cell v events (t ∷ targets) kept = (kept.0, still_kept key_of cell v events targets kept.1)

-- the verdict about the first of the targets reaches its cell
pub reached :
    (key_of : Member → Member) (target : Target) (targets : List Target) (v : Verdict) (events after : List Event)
    → Reaches key_of target.cell v events after → AreKept key_of (target ∷ targets) events
    → (after ≡ Observed target.cell v ∷ events) × AreKept key_of targets after
reached key_of target targets v events after (inl h) kept = (h.1, rw h.1 (still_kept key_of target.cell v events targets kept.1))
reached key_of target targets v events after (inr h) kept = absurd (h.0 kept.0)

-- each target has a cell that is kept
abbrev target_of : (Member → Member) → List Event → TargetPlace → ℕ → Target
target_of key_of events place c = record { backend = place.backend; cell = c; healthy = cell_health key_of c events }

kept_by :
    (key_of : Member → Member) (events : List Event) (place : TargetPlace) (key : Member) (o : Option ℕ) (rest : List Target)
    → cell_now same_member (changes_after key_of events) key ≡ o → AreKept key_of rest events
    → AreKept key_of (cons_option (option_map (λ c. target_of key_of events place c) o) rest) events
kept_by key_of events place key None rest e kept = kept
kept_by key_of events place key (Some c) rest e kept = (inl (key, e), kept)

all_kept :
    (key_of : Member → Member) (events : List Event) (es : List (TargetPlace × Member))
    → AreKept key_of (filter_map (target_at key_of events) es) events
all_kept key_of events [] = tt
all_kept key_of events (e ∷ es) =
    kept_by key_of events e.0 e.1 (cell_now same_member (changes_after key_of events) e.1) (filter_map (target_at key_of events) es) refl
    (all_kept key_of events es)

pub targets_kept : (key_of : Member → Member) (events : List Event) → AreKept key_of (targets_after key_of events) events
targets_kept key_of events = all_kept key_of events (targets_in key_of (views_after events))
