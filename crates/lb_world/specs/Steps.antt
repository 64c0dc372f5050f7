-- The steps that a world takes: one for each kind of script line, with lists in place of vectors.
-- Registries, gates, groups and readers are named by numbers, from 0 in the order in which they were made, each kind by itself.
use Rattle.std.specs.Prelude.{ℕ, Bool, List, Option}
use Rattle.lb_select_base.specs.Backends.{Member}
use Rattle.lb_world.specs.declared.step.CellKey.{CellKey}
use Rattle.lb_world.specs.declared.step.Listing.{Listing}
use Rattle.lb_world.specs.declared.step.Step as declared
use Rattle.lb_world.specs.declared.step.Step.TheVariants as is

-- Moments are in nanoseconds; a backend is none where its address was refused.
pub data Step (C : Type 0) : Type 0 where
  -- a registry by that rule, whose cells start healthy or not
  registry : CellKey → Bool → Step C
  gate : Step C
  -- a group over that registry and that gate, with a slot for each configuration
  group : (registry gate : ℕ) → List C → Step C
  update : (group now : ℕ) → List Listing → Step C
  ask : (group slot now : ℕ) → Step C
  build : (group slot now : ℕ) → Step C
  -- the running build fails by order
  failbuild : (group slot now : ℕ) → Step C
  lost : (group slot : ℕ) → Step C
  publish : (group slot : ℕ) → Step C
  abandon : (group slot : ℕ) → Step C
  enter : (group slot : ℕ) → Step C
  ready : (reader : ℕ) → Option Member → Step C
  leave : (reader : ℕ) → Step C
  -- a retired selector is taken, destroyed and reported
  destroy : (group slot : ℕ) → Step C
  -- a key, the limit of candidates, and the random words that the walk may draw
  select : (group slot : ℕ) → List ℕ → ℕ → List ℕ → Step C
  verdict : (registry cell : ℕ) → Bool → ℕ → Step C
  enable : (group : ℕ) → Option Member → Step C
  disable : (group : ℕ) → Option Member → Step C
  cancel : (group : ℕ) → Step C
  targets : (registry : ℕ) → Step C
  counts : (group slot : ℕ) → Step C
  timing : (group slot : ℕ) → Step C
  -- the load of a backend, as selectors by least connections read it
  load : (group : ℕ) → Option Member → ℕ → Step C

-- a step of the source, as histories have it
abbrev pub step_seen : {C : Type 0} → declared.Step C → Step C
step_seen (is.Registry rule healthy) = registry rule healthy
step_seen is.Gate = gate
step_seen (is.Group r a configs) = group r a configs.items
step_seen (is.Update g now listings) = update g now listings.items
step_seen (is.Ask g s now) = ask g s now
step_seen (is.Build g s now) = build g s now
step_seen (is.FailBuild g s now) = failbuild g s now
step_seen (is.Lost g s) = lost g s
step_seen (is.Publish g s) = publish g s
step_seen (is.Abandon g s) = abandon g s
step_seen (is.Enter g s) = enter g s
step_seen (is.Ready t b) = ready t b
step_seen (is.Leave t) = leave t
step_seen (is.Destroy g s) = destroy g s
step_seen (is.Select g s key limit words) = select g s key.items limit words.items
step_seen (is.Verdict r c ok threshold) = verdict r c ok threshold
step_seen (is.Enable g b) = enable g b
step_seen (is.Disable g b) = disable g b
step_seen (is.Cancel g) = cancel g
step_seen (is.Targets r) = targets r
step_seen (is.Counts g s) = counts g s
step_seen (is.Timing g s) = timing g s
step_seen (is.Load g b amount) = load g b amount
