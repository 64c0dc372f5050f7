-- Worked rows as runs: each answer is computed. Two groups share a gate; the second one's job waits until what the first one
-- retired is destroyed, which a reader holds up.
use Rattle.std.specs.Prelude.{◌≡◌, ℕ, Bool, true, false, List, [], ◌∷◌, Option, Some, None, refl}
use Rattle.std.proofs.Common.{inl, inr}
use Rattle.lb_select_base.specs.Backends.{Member, ipv4}
use Rattle.lb_select_base.specs.Draws.{Draw}
use Rattle.lb_select_base.specs.declared.refusal.Refusal.TheVariants as refusal
use Rattle.lb_world.specs.Steps as step
use Rattle.lb_world.specs.declared.step.CellKey.TheVariants.{Identity}
use Rattle.lb_world.specs.declared.step.Listing.{Listing}
use Rattle.lb_world.specs.declared.answer.Answer.TheVariants as answer
use Rattle.lb_world.specs.Meanings.{Meaning}
use Rattle.lb_health_core.specs.CellEvents.{is_held}
use Rattle.lb_health_core.specs.RegistryEvents.{cell_events, cell_health}
use Rattle.lb_health_view.specs.RegistrySide.{IsReady}
use Rattle.lb_health_view.specs.Snapshots.{snapshot_at}
use Rattle.lb_health_view.specs.ViewEvents.{snapshots_after, flag_after}
use Rattle.lb_world.specs.Shared.{key_of, registry_events}
use Rattle.lb_world.specs.GroupEvents.{view_events}
use Rattle.lb_world.specs.History.{History}
use Rattle.lb_world.specs.Answers.{IsRun}

-- a backend of weight 1 at port 80 of 1.0.0.n
abbrev backend : ℕ → Member
backend n = record { address = ipv4 (1 ∷ 0 ∷ 0 ∷ n ∷ []) 80; weight = 1; ext = [] }

-- selectors that can always be built and draw no random words
abbrev plain : {C : Type 0} → (List Member → C → List ℕ → List Draw → List Member → Bool → Type 0) → Meaning C
plain walks = record { walks = walks; refusal = λ members c. None; random = λ members c. false }

module _ {C : Type 0} (walks : List Member → C → List ℕ → List Draw → List Member → Bool → Type 0) (c : C) where
  abbrev only : ℕ → List Listing
  only n = record { backend = Some (backend n); mark = None } ∷ []

  abbrev made : History C
  made =
      (step.group 0 0 (c ∷ []), answer.Group 1)
      ∷ (step.group 0 0 (c ∷ []), answer.Group 0)
      ∷ (step.gate, answer.Gate 0)
      ∷ (step.registry Identity true, answer.Registry 0)
      ∷ []

  made-run : IsRun (plain walks) made
  made-run = ((((tt, inl refl), inl refl), inl refl), inl refl)

  abbrev asked : History C
  asked =
      (step.ask 1 0 0, answer.Busy)
      ∷ (step.ask 0 0 0, answer.Build 1)
      ∷ (step.update 1 0 (only 2), answer.Generation 1)
      ∷ (step.update 0 0 (only 1), answer.Generation 1)
      ∷ made

  asked-run : IsRun (plain walks) asked
  asked-run = ((((made-run, inl refl), inl refl), inl refl), inl refl)

  abbrev read : History C
  read =
      (step.destroy 0 0, answer.Refused (refusal.StillRead 1))
      ∷ (step.ask 1 0 6, answer.Busy)
      ∷ (step.publish 0 0, answer.Published 1)
      ∷ (step.build 0 0 5, answer.Built 1)
      ∷ (step.enter 0 0, answer.Reader 0 0)
      ∷ asked

  read-run : IsRun (plain walks) read
  read-run = (((((asked-run, inl refl), inl refl), inl refl), inl refl), inl refl)

  abbrev left : History C
  left =
      (step.timing 0 0, answer.Timed (Some (record { generation = 1; queue = 0; build = 5 })))
      ∷ (step.ask 1 0 6, answer.Build 1)
      ∷ (step.destroy 0 0, answer.Destroyed)
      ∷ (step.leave 0, answer.Left 0)
      ∷ read

  left-run : IsRun (plain walks) left
  left-run = ((((read-run, inl refl), inl refl), inl refl), inl refl)

  -- One group: what it serves is judged by its own generation's cells. A verdict reaches the cell of generation 1; the backend goes and
  -- comes back with another cell, while generation 1 is still served.
  abbrev one : History C
  one =
      (step.destroy 0 0, answer.Destroyed)
      ∷ (step.publish 0 0, answer.Published 1)
      ∷ (step.build 0 0 0, answer.Built 1)
      ∷ (step.ask 0 0 0, answer.Build 1)
      ∷ (step.update 0 0 (only 1), answer.Generation 1)
      ∷ (step.group 0 0 (c ∷ []), answer.Group 0)
      ∷ (step.gate, answer.Gate 0)
      ∷ (step.registry Identity true, answer.Registry 0)
      ∷ []

  one-run : IsRun (plain walks) one
  one-run = ((((((((tt, inl refl), inl refl), inl refl), inl refl), inl refl), inl refl), inl refl), inl refl)

  -- it is ready there
  one-ready : IsReady (key_of 0 one) (view_events 0 one) (registry_events 0 one) 1 (backend 1)
  one-ready = record { listed = refl; enabled = refl; healthy = (inr refl, refl) }

  abbrev gone : History C
  gone =
      (step.targets 0, answer.Targets (record { backend = backend 1; cell = 1; healthy = true } ∷ []))
      ∷ (step.update 0 2 (only 1), answer.Generation 3)
      ∷ (step.update 0 1 [], answer.Generation 2)
      ∷ (step.disable 0 (Some (backend 1)), answer.Done)
      ∷ (step.verdict 0 0 false 1, answer.Flipped true)
      ∷ one

  gone-run : IsRun (plain walks) gone
  gone-run = (((((one-run, inl (inr refl, refl)), inl refl), inl refl), inl refl), inl refl)

  -- generation 1 is held by its slot, with the cell that it had, which is not healthy
  gone-held :
      snapshot_at 1 (snapshots_after (view_events 0 gone))
      ≡ Some (record { generation = 1; members = backend 1 ∷ []; cells = (backend 1, 0) ∷ []; holds = 1 })
  gone-held = refl

  gone-sick : cell_health (key_of 0 gone) 0 (registry_events 0 gone) ≡ false
  gone-sick = refl

  -- generation 3 is served next, and once what served generation 1 is destroyed its snapshot and its cell go
  abbrev back : History C
  back =
      (step.destroy 0 0, answer.Destroyed)
      ∷ (step.verdict 0 0 true 1, answer.Flipped true)
      ∷ (step.publish 0 0, answer.Published 3)
      ∷ (step.build 0 0 3, answer.Built 3)
      ∷ (step.ask 0 0 3, answer.Build 3)
      ∷ (step.enable 0 (Some (backend 1)), answer.Done)
      ∷ gone

  back-run : IsRun (plain walks) back
  back-run = ((((((gone-run, inl refl), inl refl), inl refl), inl refl), inl (inr refl, refl)), inl refl)

  back-gone : snapshot_at 1 (snapshots_after (view_events 0 back)) ≡ None
  back-gone = refl

  back-loose : is_held 0 (cell_events (key_of 0 back) (registry_events 0 back)) ≡ false
  back-loose = refl

  back-ready : IsReady (key_of 0 back) (view_events 0 back) (registry_events 0 back) 3 (backend 1)
  back-ready = record { listed = refl; enabled = refl; healthy = (inr refl, refl) }

  -- a flag stays where a later discovery leaves it out, and changes where it is marked
  abbrev marked : Option Bool → List Listing
  marked on = record { backend = Some (backend 1); mark = on } ∷ []

  abbrev flags : History C
  flags =
      (step.update 0 1 (marked None), answer.Same 1)
      ∷ (step.update 0 0 (marked (Some false)), answer.Generation 1)
      ∷ (step.group 0 0 (c ∷ []), answer.Group 0)
      ∷ (step.gate, answer.Gate 0)
      ∷ (step.registry Identity true, answer.Registry 0)
      ∷ []

  flags-run : IsRun (plain walks) flags
  flags-run = (((((tt, inl refl), inl refl), inl refl), inl refl), inl refl)

  flags-stay : flag_after (view_events 0 flags) (backend 1) ≡ false
  flags-stay = refl

  flags-change : flag_after (view_events 0 ((step.update 0 2 (marked (Some true)), answer.Same 1) ∷ flags)) (backend 1) ≡ true
  flags-change = refl
