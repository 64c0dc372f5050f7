-- A history: the steps that a world took, each with its answer, the last first. What was made, who reads, what happened to each
-- group and its view, and what is held of each job, is one short recursion each; what a group's events mean is defined by the crate of
-- groups.
use Rattle.std.specs.Prelude.{ℕ, ◌+◌, ◌-◌, Bool, true, false, ◌&&◌, ◌||◌, ◌==◌, List, [], ◌∷◌, ◌++◌, length, filter, Option, Some, None}
use Rattle.std.specs.Prelude.{if◌then◌else◌, fold, slice_get, slice_set}
use Rattle.std.specs.BTreeMap.{insert_entry}
use Rattle.std.specs.List.{filter_map}
use Rattle.std.specs.Option.{option_map}
use Rattle.lb_select_base.specs.Backends.{Member, member_cmp, same_member}
use Rattle.lb_select_base.specs.Memberships.{set_of}
use Rattle.lb_health_core.specs.Keys.{by_identity}
use Rattle.lb_rebuild_core.specs.GroupHistory as group
use Rattle.lb_rebuild_core.specs.GroupHistory.{Shown, Set, Cancelled, At, after_settings}
use Rattle.lb_rebuild_core.specs.Laws.{number}
use Rattle.lb_rebuild_core.specs.SlotsHistory as slots
use Rattle.lb_world.specs.Steps.{Step}
use Rattle.lb_world.specs.declared.step.Listing.{Listing}
use Rattle.lb_world.specs.declared.step.CellKey.{CellKey}
use Rattle.lb_world.specs.Steps as step
use Rattle.lb_world.specs.declared.answer.Answer.{Answer}
use Rattle.lb_world.specs.declared.answer.Answer.TheVariants as answer

abbrev pub History : Type 0 → Type 0
History C = List (Step C × Answer)

-- what a registry was made with: the rule of its keys, and whether its cells start healthy
pub record RegistryMade : Type 0 where
  pub rule : CellKey
  pub healthy : Bool

-- what a group was made with: its registry, its gate, the number of its view in the registry, a configuration for each slot
pub record Made (C : Type 0) : Type 0 where
  pub registry : ℕ
  pub gate : ℕ
  pub view : ℕ
  pub configs : List C

-- an entry of a reader: where it is, and the generation that it reads
pub record Entered : Type 0 where
  pub group : ℕ
  pub slot : ℕ
  pub generation : ℕ

-- what is held of a slot's job: nothing, the job, or what was built of it with the moment at which the build ended
pub data Work : Type 0 where
  idle : Work
  building : Work
  built : ℕ → Work

abbrev pub is_building : Work → Bool
is_building idle = false
is_building building = true
is_building (built now) = false

abbrev pub is_held : Work → Bool
is_held idle = false
is_held building = true
is_held (built now) = true

abbrev pub ended : Work → ℕ
ended idle = 0
ended building = 0
ended (built now) = now

-- whether a number is there and is this one
abbrev pub is_at : ℕ → Option ℕ → Bool
is_at n None = false
is_at n (Some m) = m == n

-- the members that an update brings: those whose address was not refused, of each identity the first
abbrev pub members_in : List Listing → List Member
members_in listings = set_of (filter_map (λ l. l.backend) listings)

-- where a reader is that is in
abbrev pub group_in : Option (Option Entered) → Option ℕ
group_in None = None
group_in (Some None) = None
group_in (Some (Some e)) = Some e.group

abbrev pub slot_in : Option (Option Entered) → ℕ
slot_in None = 0
slot_in (Some None) = 0
slot_in (Some (Some e)) = e.slot

-- whether an entry reads that generation of that slot
abbrev pub reads : ℕ → ℕ → ℕ → Option Entered → Bool
reads g s n None = false
reads g s n (Some e) = e.group == g && (e.slot == s && e.generation == n)

-- a mark of an update, with the identity that it is for
abbrev pub marked : Option Member → Option Bool → Option (Member × Bool)
marked None on = None
marked (Some b) None = None
marked (Some b) (Some on) = Some (by_identity b, on)

-- the settings of an update: a map by identity, in which the last mark of an identity counts
abbrev pub settings_in : List Listing → List (Member × Bool)
settings_in listings = fold (λ entries e. insert_entry member_cmp entries e.0 e.1) [] (filter_map (λ l. marked l.backend l.mark) listings)

-- the cells that the members of an update of a group get, after a history
abbrev pub GivenCells : Type 0 → Type 0
GivenCells C = ℕ → List Listing → History C → List (Member × ℕ)

-- the members of the last job of a slot
abbrev pub job_members : ℕ → group.History → List Member
job_members s e = slots.granted_members (slots.past_of s (group.slot_events e))

module _ {C : Type 0} where
  -- how many of these groups are over that registry
  abbrev pub over : ℕ → List (Made C) → ℕ
  over r groups = length (filter (λ m. m.registry == r) groups)

  abbrev pub config_in : ℕ → Option (Made C) → Option C
  config_in s None = None
  config_in s (Some m) = slice_get m.configs s

  -- the registries, the gates and the groups that were made, in their order
  abbrev pub registries : History C → List RegistryMade
  registries [] = []
  registries ((step.registry rule healthy, answer.Registry n) ∷ h) = registries h ++ record { rule = rule; healthy = healthy } ∷ []
  registries ((st, a) ∷ h) = registries h

  abbrev pub gates : History C → ℕ
  gates [] = 0
  gates ((step.gate, answer.Gate n) ∷ h) = gates h + 1
  gates ((st, a) ∷ h) = gates h

  abbrev pub made : History C → List (Made C)
  made [] = []
  made ((step.group r a configs, answer.Group n) ∷ h) =
      made h ++ record { registry = r; gate = a; view = over r (made h) + 1; configs = configs } ∷ []
  made ((st, a) ∷ h) = made h

  abbrev pub made_at : ℕ → History C → Option (Made C)
  made_at g h = slice_get (made h) g

  -- the configuration of a slot
  abbrev pub config : ℕ → ℕ → History C → Option C
  config g s h = config_in s (made_at g h)

  -- the gate and the registry of a group
  abbrev pub gate_of : ℕ → History C → Option ℕ
  gate_of g h = option_map (λ m. m.gate) (made_at g h)

  abbrev pub registry_of : ℕ → History C → Option ℕ
  registry_of g h = option_map (λ m. m.registry) (made_at g h)

  -- the gate of a slot that is there
  abbrev pub gate_at : ℕ → Option (Made C) → Option ℕ
  gate_at s None = None
  gate_at s (Some m) = option_map (λ c. m.gate) (slice_get m.configs s)

  abbrev pub slot_gate : ℕ → ℕ → History C → Option ℕ
  slot_gate g s h = gate_at s (made_at g h)

  -- the readers' entries in their order; one that left is none
  abbrev pub entries : History C → List (Option Entered)
  entries [] = []
  entries ((step.enter g s, answer.Reader t n) ∷ h) = entries h ++ Some (record { group = g; slot = s; generation = n }) ∷ []
  entries ((step.leave t, answer.Left n) ∷ h) = slice_set (entries h) t None
  entries ((st, a) ∷ h) = entries h

  -- the group that a step is at
  abbrev pub group_at : History C → Step C → Option ℕ
  group_at h (step.registry rule healthy) = None
  group_at h step.gate = None
  group_at h (step.group r a configs) = None
  group_at h (step.update g now listings) = Some g
  group_at h (step.ask g s now) = Some g
  group_at h (step.build g s now) = Some g
  group_at h (step.failbuild g s now) = Some g
  group_at h (step.lost g s) = Some g
  group_at h (step.publish g s) = Some g
  group_at h (step.abandon g s) = Some g
  group_at h (step.enter g s) = Some g
  group_at h (step.ready t b) = None
  group_at h (step.leave t) = group_in (slice_get (entries h) t)
  group_at h (step.destroy g s) = Some g
  group_at h (step.select g s key limit words) = Some g
  group_at h (step.verdict r c ok threshold) = None
  group_at h (step.enable g b) = Some g
  group_at h (step.disable g b) = Some g
  group_at h (step.cancel g) = Some g
  group_at h (step.targets r) = None
  group_at h (step.counts g s) = Some g
  group_at h (step.timing g s) = Some g
  group_at h (step.load g b load) = Some g

  -- whether a step moves what is held of that slot's job
  abbrev pub works_at : ℕ → ℕ → Step C → Bool
  works_at g s (step.ask group slot now) = group == g && slot == s
  works_at g s (step.build group slot now) = group == g && slot == s
  works_at g s (step.failbuild group slot now) = group == g && slot == s
  works_at g s (step.publish group slot) = group == g && slot == s
  works_at g s (step.abandon group slot) = group == g && slot == s
  works_at g s st = false

  abbrev pub worked : Step C → Answer → Work → Work
  worked (step.ask g s now) (answer.Build n) w = building
  worked (step.build g s now) (answer.Built n) w = built now
  worked (step.build g s now) (answer.BuildFailed n r) w = idle
  worked (step.failbuild g s now) (answer.Failed n) w = idle
  worked (step.publish g s) (answer.Published n) w = idle
  worked (step.publish g s) (answer.Abandoned n) w = idle
  worked (step.abandon g s) (answer.Abandoned n) w = idle
  worked st a w = w

  abbrev pub work : ℕ → ℕ → History C → Work
  work g s [] = idle
  work g s ((st, a) ∷ h) = if works_at g s st then worked st a (work g s h) else work g s h

  -- a selection left the counter of tickets of a slot that is there at t
  abbrev pub drew : Option C → ℕ → ℕ → group.History → group.History
  drew None s t e = e
  drew (Some c) s t e = At s (slots.Drew t) ∷ e

  -- What a step did to its group and the group's view, by its answer, the newest first; e is what happened to them before. The cells
  -- that an update's members get are given by its group, its listings and what came before. A job comes back with the members that it
  -- went out with.
  abbrev pub joined_step : GivenCells C → History C → group.History → Step C → Answer → group.History
  joined_step cells h e (step.update g now listings) (answer.Generation n) =
      after_settings (settings_in listings) (Shown (members_in listings) (cells g listings h) now ∷ e)
  joined_step cells h e (step.update g now listings) (answer.Same n) = after_settings (settings_in listings) e
  joined_step cells h e (step.ask g s now) (answer.Build n) = At s (slots.Granted now) ∷ e
  joined_step cells h e (step.build g s now) (answer.BuildFailed n r) = At s (slots.Failed now (job_members s e)) ∷ e
  joined_step cells h e (step.failbuild g s now) (answer.Failed n) = At s (slots.Failed now (job_members s e)) ∷ e
  joined_step cells h e (step.lost g s) (answer.Lost n) = At s slots.WorkerLost ∷ e
  joined_step cells h e (step.publish g s) (answer.Published n) = At s (slots.Published (ended (work g s h)) (job_members s e)) ∷ e
  joined_step cells h e (step.publish g s) (answer.Abandoned n) = At s (slots.Abandoned (job_members s e)) ∷ e
  joined_step cells h e (step.abandon g s) (answer.Abandoned n) = At s (slots.Abandoned (job_members s e)) ∷ e
  joined_step cells h e (step.enter g s) (answer.Reader t n) = At s slots.Entered ∷ e
  joined_step cells h e (step.leave t) (answer.Left n) = At (slot_in (slice_get (entries h) t)) (slots.Left n) ∷ e
  joined_step cells h e (step.destroy g s) answer.Destroyed = At s slots.Destroyed ∷ At s slots.TakenOut ∷ e
  joined_step cells h e (step.select g s key limit words) (answer.Backend b t) = drew (config g s h) s t e
  joined_step cells h e (step.select g s key limit words) (answer.NoBackend t) = drew (config g s h) s t e
  joined_step cells h e (step.select g s key limit words) (answer.NotSelected t) = drew (config g s h) s t e
  joined_step cells h e (step.enable g (Some b)) answer.Done = Set b true ∷ e
  joined_step cells h e (step.disable g (Some b)) answer.Done = Set b false ∷ e
  joined_step cells h e (step.cancel g) answer.Cancelled = Cancelled ∷ e
  joined_step cells h e st a = e

  -- what happened to a group that is joined with its view, by the cells that the members of its updates get
  abbrev pub joined : GivenCells C → ℕ → History C → group.History
  joined cells g [] = []
  joined cells g ((st, a) ∷ h) =
      if is_at g (group_at h st) then joined_step cells h (joined cells g h) st a else joined cells g h

  -- what happened to the group itself, in which there are no cells
  abbrev pub slot_events : ℕ → History C → slots.History
  slot_events g h = group.slot_events (joined (λ i listings k. []) g h)

  -- the past of a slot
  abbrev pub past : ℕ → ℕ → History C → slots.History
  past g s h = slots.past_of s (slot_events g h)

  -- the gate of the group that a step is at
  abbrev pub gate_in : History C → Option ℕ → Option ℕ
  gate_in h None = None
  gate_in h (Some g) = gate_of g h

  -- a job is an extra of its gate, until its build fails or its selector is destroyed
  abbrev pub is_grant : Step C → Answer → Bool
  is_grant (step.ask g s now) (answer.Build n) = true
  is_grant st a = false

  abbrev pub is_failure : Step C → Answer → Bool
  is_failure (step.build g s now) (answer.BuildFailed n r) = true
  is_failure (step.failbuild g s now) (answer.Failed n) = true
  is_failure st a = false

  abbrev pub is_destruction : Step C → Answer → Bool
  is_destruction (step.destroy g s) answer.Destroyed = true
  is_destruction st a = false

  -- how many steps at a gate's groups were such ones
  abbrev pub count_on : (Step C → Answer → Bool) → ℕ → History C → ℕ
  count_on p a [] = 0
  count_on p a ((st, b) ∷ h) = number (p st b && is_at a (gate_in h (group_at h st))) + count_on p a h

  -- the extras of a gate: its jobs, less its failed builds, less its selectors that were reported destroyed
  abbrev pub extras : ℕ → History C → ℕ
  extras a h = count_on is_grant a h - count_on is_failure a h - count_on is_destruction a h

  abbrev pub is_free : ℕ → History C → Bool
  is_free a h = extras a h == 0

  -- whether the permit of a gate is out: the last of its grants and returns was a grant
  abbrev pub is_out : ℕ → History C → Bool
  is_out a [] = false
  is_out a ((st, b) ∷ h) =
      if is_at a (gate_in h (group_at h st))
      then if is_grant st b then true else if is_failure st b || is_destruction st b then false else is_out a h
      else is_out a h

  -- the load of a backend in a group, as it was set last
  abbrev pub load_of : ℕ → Member → History C → ℕ
  load_of g b [] = 0
  load_of g b ((step.load group (Some c) load, answer.Done) ∷ h) =
      if group == g && same_member c b then load else load_of g b h
  load_of g b ((st, a) ∷ h) = load_of g b h

  -- the history after further steps with these answers, in their order
  abbrev pub after : History C → List (Step C) → List Answer → History C
  after h [] answers = h
  after h (st ∷ steps) [] = h
  after h (st ∷ steps) (a ∷ answers) = after ((st, a) ∷ h) steps answers
