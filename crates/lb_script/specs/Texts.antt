-- What a script's answers and its last line are written as, each without its line feed.
use Rattle.std.specs.Prelude.{ℕ, Bool, true, false, List, [], ◌∷◌, codes, decimal, length, ◌++◌, Option, Some, None, if◌then◌else◌}
use Rattle.lb_select_base.specs.AddressText.{member_text}
use Rattle.lb_select_base.specs.Refusals.{refusal_number, refusal_name}
use Rattle.lb_select_base.specs.declared.refusal.Refusal.{Refusal}
use Rattle.lb_select_base.specs.declared.refusal.Refusal.TheVariants.{StillRead, OutOfMemory}
use Rattle.lb_rebuild_core.specs.declared.answers.Counts.{Counts}
use Rattle.lb_rebuild_core.specs.declared.answers.Timing.{Timing}
use Rattle.lb_health_core.specs.declared.targets.Target.{Target}
use Rattle.lb_world.specs.declared.answer.Answer.{Answer}
use Rattle.lb_world.specs.declared.answer.Answer.TheVariants as answer
use Rattle.lb_world.specs.declared.answer.SlotCounts.{SlotCounts}
use Rattle.lb_script.specs.declared.error.ScriptError.{ScriptError}
use Rattle.lb_script.specs.declared.error.ScriptError.TheVariants as error

-- the name of a script's error
abbrev pub script_error_name : ScriptError → List ℕ
script_error_name error.BadLine = codes "BadLine"
script_error_name error.LineTooLong = codes "LineTooLong"
script_error_name error.Read = codes "Read"
script_error_name error.OutOfMemory = codes "OutOfMemory"

-- the last line of a script that ends early, at that line, counted from 1
abbrev pub error_text : ℕ → ScriptError → List ℕ
error_text line e = codes "error " ++ decimal line ++ codes " " ++ script_error_name e

-- the number and the name of a refusal; for readers that are in, their number too
abbrev pub readers_text : Refusal → List ℕ
readers_text (StillRead n) = codes " " ++ decimal n
readers_text r = []

abbrev pub refusal_text : Refusal → List ℕ
refusal_text r = decimal (refusal_number r) ++ codes " " ++ refusal_name r ++ readers_text r

-- a target: its backend, the number of its cell, and whether that is healthy
abbrev pub health_text : Bool → List ℕ
health_text true = codes ":ok"
health_text false = codes ":bad"

abbrev pub target_text : Target → List ℕ
target_text t = codes " " ++ member_text t.backend ++ codes "=" ++ decimal t.cell ++ health_text t.healthy

abbrev pub targets_text : List Target → List ℕ
targets_text [] = []
targets_text (t ∷ ts) = target_text t ++ targets_text ts

-- the numbers of a slot; no flight is a dash
abbrev pub flight_text : Option ℕ → List ℕ
flight_text None = codes "-"
flight_text (Some n) = decimal n

abbrev pub waiting_text : Bool → List ℕ
waiting_text is = if is then codes " waiting 1" else codes " waiting 0"

abbrev pub tallies_text : Counts → List ℕ
tallies_text c =
    codes " published " ++ decimal c.published ++ codes " coalesced " ++ decimal c.coalesced
    ++ codes " superseded " ++ decimal c.superseded ++ codes " failed " ++ decimal c.failed

abbrev pub counts_text : SlotCounts → List ℕ
counts_text c =
    codes "counts newest " ++ decimal c.newest ++ codes " served " ++ decimal c.served
    ++ codes " flight " ++ flight_text c.flight ++ waiting_text c.waiting ++ tallies_text c.counts

-- the timing of a slot's last publication, if any
abbrev pub timing_text : Option Timing → List ℕ
timing_text None = codes "none"
timing_text (Some t) = codes "timing " ++ decimal t.generation ++ codes " " ++ decimal t.queue ++ codes " " ++ decimal t.build

abbrev pub ready_text : Bool → List ℕ
ready_text true = codes "yes"
ready_text false = codes "no"

abbrev pub flipped_text : Bool → List ℕ
flipped_text true = codes "flipped"
flipped_text false = codes "kept"

-- the counter of tickets and the generation of a reader aren't written
abbrev pub answer_text : Answer → List ℕ
answer_text (answer.Registry n) = codes "registry " ++ decimal n
answer_text (answer.Gate n) = codes "gate " ++ decimal n
answer_text (answer.Group n) = codes "group " ++ decimal n
answer_text (answer.Generation n) = codes "generation " ++ decimal n
answer_text (answer.Same n) = codes "same " ++ decimal n
answer_text (answer.Build n) = codes "build " ++ decimal n
answer_text answer.Busy = codes "busy"
answer_text (answer.Wait m) = codes "wait " ++ decimal m
answer_text answer.Idle = codes "idle"
answer_text answer.Building = codes "building"
answer_text answer.Cancelled = codes "cancelled"
answer_text (answer.Built n) = codes "built " ++ decimal n
answer_text (answer.BuildFailed n r) = codes "failed " ++ decimal n ++ codes " " ++ refusal_text r
answer_text (answer.Failed n) = codes "failed " ++ decimal n
answer_text (answer.Lost n) = codes "lost " ++ decimal n
answer_text (answer.Published n) = codes "published " ++ decimal n
answer_text (answer.Abandoned n) = codes "abandoned " ++ decimal n
answer_text (answer.Reader t n) = codes "reader " ++ decimal t
answer_text (answer.Ready is) = ready_text is
answer_text (answer.Left n) = codes "left"
answer_text answer.Destroyed = codes "destroyed"
answer_text (answer.Backend m n) = codes "backend " ++ member_text m
answer_text (answer.NoBackend n) = codes "none"
answer_text (answer.NotSelected n) = codes "refused " ++ refusal_text OutOfMemory
answer_text (answer.Flipped is) = flipped_text is
answer_text answer.Done = codes "ok"
answer_text (answer.Targets ts) = codes "targets " ++ decimal (length ts) ++ targets_text ts
answer_text (answer.Numbers c) = counts_text c
answer_text (answer.Timed t) = timing_text t
answer_text (answer.Refused r) = codes "refused " ++ refusal_text r
