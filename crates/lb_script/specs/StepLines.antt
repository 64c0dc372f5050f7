-- What a line of a script asks for. Its first word says which kind of step it is, and the words after it are the step's own.
use Rattle.std.specs.Prelude.{◌≡◌, ℕ, ◌^◌, Bool, true, false, ◌==◌, List, [], ◌∷◌, codes, length}
use Rattle.std.specs.Prelude.{Option, Some, None, option_map, Result, Ok, Err, ⊤, if◌then◌else◌, bytes_eq, replicate, nat_le}
use Rattle.std.specs.Str.{is_utf8}
use Rattle.lb_select_base.specs.AddressText.{address_of_text, bare_member}
use Rattle.lb_select_base.specs.Backends.{Member}
use Rattle.lb_world.specs.declared.step.CellKey.{CellKey}
use Rattle.lb_world.specs.declared.step.CellKey.TheVariants.{Identity, Address}
use Rattle.lb_world.specs.declared.step.Listing.{Listing}
use Rattle.lb_world.specs.Steps.{Step}
use Rattle.lb_world.specs.Steps as step
use Rattle.lb_script.specs.declared.error.ScriptError.{ScriptError}
use Rattle.lb_script.specs.declared.error.ScriptError.TheVariants.{BadLine, LineTooLong, Read, OutOfMemory}
use Rattle.lb_script.specs.declared.kinds.Kind.{Kind}
use Rattle.lb_script.specs.declared.kinds.Kind.TheVariants.{Fnv, RoundRobin, Ketama, Least}
use Rattle.lb_script.specs.Numbers.{number_of}
use Rattle.lb_script.specs.Words.{words_of}

-- both values, where both are there
abbrev pub both : {A B : Type 0} → Option A → Option B → Option (A × B)
both (Some a) (Some b) = Some (a, b)
both (Some a) None = None
both None b = None

-- a number of 64 bits, a moment in nanoseconds, a count of slots
abbrev pub small : List ℕ → Option ℕ
small word = number_of (2 ^ 64) word

abbrev pub moment : List ℕ → Option ℕ
moment word = number_of (2 ^ 128) word

abbrev pub at_most : ℕ → Option ℕ → Option ℕ
at_most most None = None
at_most most (Some n) = if nat_le n most then Some n else None

abbrev pub count : List ℕ → Option ℕ
count word = at_most 1024 (small word)

-- the kind of selector that a word names, the rule of a registry's keys, and the verdict of a check
abbrev pub selector_kind_of : List ℕ → Option Kind
selector_kind_of word =
    if bytes_eq word (codes "fnv") then Some Fnv else
    if bytes_eq word (codes "rr") then Some RoundRobin else
    if bytes_eq word (codes "ketama") then Some Ketama else
    if bytes_eq word (codes "least") then Some Least else None

abbrev pub cell_key_of : List ℕ → Option CellKey
cell_key_of word =
    if bytes_eq word (codes "identity") then Some Identity else
    if bytes_eq word (codes "address") then Some Address else None

abbrev pub verdict_of : List ℕ → Option Bool
verdict_of word =
    if bytes_eq word (codes "ok") then Some true else
    if bytes_eq word (codes "fail") then Some false else None

-- a word, divided at its last slash; none where it has no slash
abbrev pub longer : ℕ → List ℕ → Option (List ℕ × List ℕ) → Option (List ℕ × List ℕ)
longer x xs (Some p) = Some (x ∷ p.0, p.1)
longer x xs None = if x == 47 then Some ([], xs) else None

abbrev pub address_and_weight : List ℕ → Option (List ℕ × List ℕ)
address_and_weight [] = None
address_and_weight (x ∷ xs) = longer x xs (address_and_weight xs)

-- a backend: an address, a slash and a weight. None within is an address that is refused, as is `unix:` with no path.
abbrev pub backend_in : Option (List ℕ × List ℕ) → Option (Option Member)
backend_in None = None
backend_in (Some p) =
    option_map (λ weight. option_map (bare_member weight) (address_of_text p.0)) (small p.1)

abbrev pub backend_of : List ℕ → Option (Option Member)
backend_of word = backend_in (address_and_weight word)

-- what a mark says, and the word after it: `!` disables, `+` enables, and a word with neither is unmarked
abbrev pub mark_of : List ℕ → Option Bool × List ℕ
mark_of [] = (None, [])
mark_of (x ∷ xs) = if x == 33 then (Some false, xs) else if x == 43 then (Some true, xs) else (None, x ∷ xs)

-- a backend of an update, marked or not, and a list of them, where each word is one
abbrev pub listing_of : List ℕ → Option Listing
listing_of word = option_map (λ b. record { backend = b; mark = (mark_of word).0 }) (backend_of (mark_of word).1)

abbrev pub listings_of : List (List ℕ) → Option (List Listing)
listings_of [] = Some []
listings_of (word ∷ words) = option_map (λ p. p.0 ∷ p.1) (both (listing_of word) (listings_of words))

-- one number
abbrev pub lone_of : List (List ℕ) → Option ℕ
lone_of (word ∷ []) = small word
lone_of words = None

-- a group and a slot
abbrev pub slot_of : List (List ℕ) → Option (ℕ × ℕ)
slot_of (group ∷ slot ∷ []) = both (small group) (small slot)
slot_of words = None

-- a group, a slot and a moment
abbrev pub slot_moment_of : List (List ℕ) → Option ((ℕ × ℕ) × ℕ)
slot_moment_of (group ∷ slot ∷ now ∷ []) = both (both (small group) (small slot)) (moment now)
slot_moment_of words = None

-- a reader or a group, and a backend
abbrev pub numbered_backend_of : List (List ℕ) → Option (ℕ × Option Member)
numbered_backend_of (number ∷ backend ∷ []) = both (small number) (backend_of backend)
numbered_backend_of words = None

-- steps of one shape, each by the words after its first
abbrev pub at_number : (ℕ → Step Kind) → List (List ℕ) → Option (Step Kind)
at_number st words = option_map st (lone_of words)

abbrev pub at_slot : (ℕ → ℕ → Step Kind) → List (List ℕ) → Option (Step Kind)
at_slot st words = option_map (λ p. st p.0 p.1) (slot_of words)

abbrev pub at_moment : (ℕ → ℕ → ℕ → Step Kind) → List (List ℕ) → Option (Step Kind)
at_moment st words = option_map (λ p. st p.0.0 p.0.1 p.1) (slot_moment_of words)

abbrev pub at_backend : (ℕ → Option Member → Step Kind) → List (List ℕ) → Option (Step Kind)
at_backend st words = option_map (λ p. st p.0 p.1) (numbered_backend_of words)

-- the other steps, each by the words after its first. Cells start healthy unless a last word says that they don't.
abbrev pub starts_healthy_of : List (List ℕ) → Option Bool
starts_healthy_of [] = Some true
starts_healthy_of (word ∷ []) = if bytes_eq word (codes "unhealthy") then Some false else None
starts_healthy_of words = None

abbrev pub registry_of : List (List ℕ) → Option (Step Kind)
registry_of [] = None
registry_of (rule ∷ words) = option_map (λ p. step.registry p.0 p.1) (both (cell_key_of rule) (starts_healthy_of words))

abbrev pub gate_of : List (List ℕ) → Option (Step Kind)
gate_of [] = Some step.gate
gate_of (word ∷ words) = None

abbrev pub group_parts_of : List (List ℕ) → Option ((ℕ × ℕ) × (Kind × ℕ))
group_parts_of (registry ∷ gate ∷ kind ∷ slots ∷ []) =
    both (both (small registry) (small gate)) (both (selector_kind_of kind) (count slots))
group_parts_of words = None

abbrev pub slots_of : List (List ℕ) → Option (Step Kind)
slots_of words = option_map (λ p. step.group p.0.0 p.0.1 (replicate p.1.1 p.1.0)) (group_parts_of words)

abbrev pub update_of : List (List ℕ) → Option (Step Kind)
update_of (group ∷ now ∷ backends) =
    option_map (λ p. step.update p.0.0 p.0.1 p.1) (both (both (small group) (moment now)) (listings_of backends))
update_of words = None

abbrev pub verdict_step_of : List (List ℕ) → Option (Step Kind)
verdict_step_of (registry ∷ cell ∷ verdict ∷ threshold ∷ []) =
    option_map (λ p. step.verdict p.0.0 p.0.1 p.1.0 p.1.1)
    (both (both (small registry) (small cell)) (both (verdict_of verdict) (small threshold)))
verdict_step_of words = None

abbrev pub load_of : List (List ℕ) → Option (Step Kind)
load_of (group ∷ backend ∷ load ∷ []) =
    option_map (λ p. step.load p.0.0 p.1 p.0.1) (both (both (small group) (small load)) (backend_of backend))
load_of words = None

abbrev pub with_key : ((ℕ × ℕ) × ℕ) → List ℕ → (ℕ × ℕ) × (List ℕ × ℕ)
with_key p key = (p.0, (key, p.1))

abbrev pub select_parts_of : List (List ℕ) → Option ((ℕ × ℕ) × (List ℕ × ℕ))
select_parts_of (group ∷ slot ∷ key ∷ limit ∷ []) =
    if length key == 0 then None else
    option_map (λ p. with_key p key) (both (both (small group) (small slot)) (small limit))
select_parts_of words = None

abbrev pub select_of : List (List ℕ) → Option (Step Kind)
select_of words = option_map (λ p. step.select p.0.0 p.0.1 p.1.0 p.1.1 []) (select_parts_of words)

-- By its first word, a step that makes something, gives a verdict, or names one number.
abbrev pub lone_step_of : List ℕ → List (List ℕ) → Option (Step Kind)
lone_step_of first words =
    if bytes_eq first (codes "leave") then at_number step.leave words else
    if bytes_eq first (codes "verdict") then verdict_step_of words else
    if bytes_eq first (codes "targets") then at_number step.targets words else
    if bytes_eq first (codes "cancel") then at_number step.cancel words else
    if bytes_eq first (codes "registry") then registry_of words else
    if bytes_eq first (codes "gate") then gate_of words else None

-- a step at a slot, or one of those
abbrev pub slot_step_of : List ℕ → List (List ℕ) → Option (Step Kind)
slot_step_of first words =
    if bytes_eq first (codes "publish") then at_slot step.publish words else
    if bytes_eq first (codes "enter") then at_slot step.enter words else
    if bytes_eq first (codes "destroy") then at_slot step.destroy words else
    if bytes_eq first (codes "lost") then at_slot step.lost words else
    if bytes_eq first (codes "abandon") then at_slot step.abandon words else
    if bytes_eq first (codes "counts") then at_slot step.counts words else
    if bytes_eq first (codes "timing") then at_slot step.timing words else lone_step_of first words

-- a step at a slot and a moment, or one of those: the steps whose words are read without memory
abbrev pub plain_step_of : List ℕ → List (List ℕ) → Option (Step Kind)
plain_step_of first words =
    if bytes_eq first (codes "ask") then at_moment step.ask words else
    if bytes_eq first (codes "build") then at_moment step.build words else
    if bytes_eq first (codes "failbuild") then at_moment step.failbuild words else slot_step_of first words

-- a step that names a backend, or one of those
abbrev pub backend_step_of : List ℕ → List (List ℕ) → Option (Step Kind)
backend_step_of first words =
    if bytes_eq first (codes "ready") then at_backend step.ready words else
    if bytes_eq first (codes "enable") then at_backend step.enable words else
    if bytes_eq first (codes "disable") then at_backend step.disable words else
    if bytes_eq first (codes "load") then load_of words else plain_step_of first words

-- a step that isn't a selection
abbrev pub other_step_of : List ℕ → List (List ℕ) → Option (Step Kind)
other_step_of first words =
    if bytes_eq first (codes "update") then update_of words else
    if bytes_eq first (codes "group") then slots_of words else backend_step_of first words

abbrev pub step_of_words : List (List ℕ) → Option (Step Kind)
step_of_words [] = None
step_of_words (first ∷ words) =
    if bytes_eq first (codes "select") then select_of words else other_step_of first words

-- the step that a line asks for; none where it is none that a script may have
abbrev pub step_of : List ℕ → Option (Step Kind)
step_of line = if is_utf8 line then step_of_words (words_of line) else None

-- what reading a word or a line gives: its meaning, as `seen` sees it; a bad line where it has none; memory may be refused
abbrev pub Reads : {T V : Type 0} → (T → V) → Option V → Result T ScriptError → Type 0
Reads seen meaning (Ok x) = meaning ≡ Some (seen x)
Reads seen meaning (Err BadLine) = meaning ≡ None
Reads seen meaning (Err LineTooLong) = ⊥
Reads seen meaning (Err Read) = ⊥
Reads seen meaning (Err OutOfMemory) = ⊤
