-- Words for what small calls answer, and for what is asked of a listing's backend, which may be none.
use Rattle.std.specs.Prelude.{◌≡◌, ◌&&◌, ◌+◌, ℕ, Bool, true, false, nat_lt, List, [], length, replicate, Option, Some, None, Result}
use Rattle.std.specs.Prelude.{Ok, Err, if◌then◌else◌}
use Rattle.lb_rebuild_core.specs.Gate.{GateId}
use Rattle.std.specs.BTreeMap.{insert_entry}
use Rattle.std.specs.BTreeSet.{insert_key}
use Rattle.lb_select_base.specs.Backends.{Member, member_cmp}
use Rattle.lb_select_base.specs.Loads.{load_in}
use Rattle.lb_select_base.specs.Refusals.{earlier}
use Rattle.lb_select_base.specs.declared.refusal.Refusal.{Refusal}
use Rattle.lb_select_base.specs.declared.refusal.Refusal.TheVariants as refusal
use Rattle.lb_rebuild_core.specs.SlotsCalls.{is_read}
use Rattle.lb_rebuild_core.specs.SlotsHistory.{AskAnswer, job}
use Rattle.lb_rebuild_core.specs.Stands.{Made}
use Rattle.lb_rebuild_core.specs.declared.answers.Selection.{Selection}
use Rattle.lb_rebuild_core.specs.declared.answers.Publication.{Publication}
use Rattle.lb_rebuild_core.specs.declared.membership.Scheduled.{Scheduled}
use Rattle.lb_rebuild_core.specs.declared.answers.Publication.TheVariants as told
use Rattle.lb_world.specs.Answers.{asked, no_number}
use Rattle.lb_world.specs.declared.answer.Answer.{Answer}
use Rattle.lb_world.specs.declared.answer.Answer.TheVariants as answer
use Rattle.lb_rebuild_core.specs.GroupHistory.{History, slot_events}
use Rattle.lb_rebuild_core.specs.GroupStates.{GroupValue, Stands}
use Rattle.lb_world.specs.Views.{EntryValue, WorldValue, nothing}

-- why no group is made over a registry and a gate that are there: the cause of its selectors, then that no number is left for its view
abbrev pub making_cause : Option Refusal → ℕ → Option Refusal
making_cause cause registered = earlier cause (no_number (registered + 1))

-- the refusal for a cause; for memory where there is none
abbrev pub or_memory : Option Refusal → Refusal
or_memory None = refusal.OutOfMemory
or_memory (Some r) = r

-- the registry and the gate of these numbers are there
abbrev pub in_tables : {C : Type 0} → WorldValue C → ℕ → ℕ → Bool
in_tables w r a = nat_lt r (length w.registries) && nat_lt a (length w.gates)

abbrev pub number_of : Option (Option ℕ) → ℕ
number_of None = 0
number_of (Some None) = 0
number_of (Some (Some n)) = n

-- what became of a built selector, as an answer
abbrev pub told_as : Publication → Answer
told_as (told.Published n) = answer.Published n
told_as (told.Abandoned n) = answer.Abandoned n

-- the answer to an ask that grants no job
abbrev pub IsUngranted : AskAnswer → Answer → Type 0
IsUngranted job a = ⊥
IsUngranted t a = a ≡ asked 0 t

-- a selection as an answer: one that was refused for memory may have moved the counter of tickets
abbrev pub selected_as : Result (Option Member) Refusal → ℕ → Answer
selected_as (Ok None) t = answer.NoBackend t
selected_as (Ok (Some b)) t = answer.Backend b t
selected_as (Err refusal.OutOfMemory) t = answer.NotSelected t
selected_as (Err r) t = answer.Refused r

abbrev pub selection_as : Selection → Answer
selection_as s = selected_as s.answer s.tickets

-- what a membership was scheduled as, as an answer
abbrev pub scheduled_as : Scheduled → Answer
scheduled_as s = (if s.changed then answer.Generation s.generation else answer.Same s.generation)

-- members with a backend that is there
abbrev pub with_key : Option Member → List Member → List Member
with_key None keys = keys
with_key (Some b) keys = insert_key member_cmp keys b

-- settings with a mark's, over those that were set before it
abbrev pub set_marked : Option (Member × Bool) → List (Member × Bool) → List (Member × Bool)
set_marked None entries = entries
set_marked (Some e) entries = insert_entry member_cmp entries e.0 e.1

-- the entry with another core
abbrev pub with_core : {C : Type 0} → GroupValue C → EntryValue C → EntryValue C
with_core v e = record e { core = v }

-- some history explains it in which the slot counts a reader of that generation
pub record IsCounted {C : Type 0} (v : GroupValue C) (slot generation : ℕ) : Type 0 where
  pub made : Made C
  pub events : History
  pub stands : Stands made events v
  pub read : is_read made slot generation (slot_events events) ≡ true

-- an entry that was made just now
pub record IsNewEntry {C : Type 0} (registry gate : ℕ) (id : GateId) (configs : List C) (view : ℕ) (e : EntryValue C) : Type 0 where
  pub registry_is : e.registry ≡ registry
  pub gate_is : e.gate ≡ gate
  pub core_is : Stands (record { id = e.core.group.id; gate = id; configs = configs }) [] e.core
  pub id_is : e.core.group.gate ≡ id
  pub view_is : e.core.view.id ≡ view
  pub works_are : e.works ≡ replicate (length configs) nothing
  pub loads_are : (b : Member) → load_in e.loads b ≡ 0

abbrev pub none_or : (Member → Bool) → Option Member → Bool
none_or f None = true
none_or f (Some x) = f x

abbrev pub some_and : (Member → Bool) → Option Member → Bool
some_and f None = false
some_and f (Some x) = f x
