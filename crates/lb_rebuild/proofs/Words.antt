-- How the words of a group change with its events: only a membership changes the newest generation, and only a publication what a slot
-- serves.
use Rattle.std.proofs.Common.{◌≡◌, ◌≢◌, ◌≤◌, ◌<◌, ◌+◌, ◌==◌, ◌%◌, ◌^◌, add-one, get_or-set_same, ◌∙◌, ℕ, zero, suc, Bool, true, false, cond}
use Rattle.std.proofs.Common.{max, List, [], ◌∷◌, ◌++◌, map, length, set, get_or, refl, sym, ap, subst, arith, Option, Some, None, Result}
use Rattle.std.proofs.Common.{Ok, Err, slice_get}
use Rattle.std.proofs.lemmas.List.{map-set, length-map}
use Rattle.std.proofs.lemmas.Bool.{eqb-true}
use Rattle.std.proofs.lemmas.Option.{slice_get_within}
use Rattle.std.specs.List.{slice_index}
use Rattle.lb_rebuild_core.specs.Gate.{GateId}
use Rattle.lb_rebuild_core.specs.SlotsHistory as slots
use Rattle.lb_rebuild_core.specs.SlotsHistory.{SlotEvent, SlotsEvent, past_of, newest, served, granted, extra, is_under_way, reaches}
use Rattle.lb_rebuild_core.specs.SlotsHistory.{Extra}
use Rattle.lb_rebuild_core.specs.SlotsCalls.{Schedules, schedule_events, is_change, ask_events, asked_events, fail_events, publish_events}
use Rattle.lb_rebuild_core.specs.SlotsCalls.{abandon_events, done_at, ticket_events, serves, has_retired, is_awaited}
use Rattle.lb_rebuild_core.specs.SlotCalls.{ask_told}
use Rattle.lb_rebuild_core.specs.Stands as core
use Rattle.lb_rebuild_core.specs.Stands.{Made, StandsFor, slots_after, slot_after, group_after}
use Rattle.lb_rebuild_core.specs.Values.{SlotValue, SlotsValue, BuiltValue, Task, configs_of}
use Rattle.lb_select_base.specs.Backends.{Member}
use Rattle.lb_rebuild_core.specs.declared.answers.Ask.{Ask}
use Rattle.lb_rebuild_core.specs.declared.membership.Scheduled.{Scheduled}
use Rattle.lb_rebuild_core.specs.declared.answers.Publication.{Publication}
use Rattle.lb_rebuild_core.specs.declared.answers.Publication.TheVariants as told
use Rattle.lb_rebuild_core.proofs.SlotsSteps.{event-slots, length-after, get-after, configs-after}
use Rattle.lb_rebuild_core.proofs.Pasts.{UnderWayFits, under-way-fits, newest-past, granted-newest, served-granted}
use Rattle.lb_select_base.specs.declared.refusal.Refusal.{Refusal}
use Rattle.lb_rebuild_core.specs.GroupHistory.{History, slot_events, in_group, Set}
use Rattle.lb_rebuild_core.specs.GroupStates.{GroupValue, Stands, IsFounded, Becomes}
use Rattle.lb_rebuild_core.proofs.Histories.{group-joined}
use Rattle.lb_rebuild.specs.Watched.{words_of}

-- an event that leaves the newest generation and what is served
pub record IsQuiet (x : SlotsEvent) : Type 0 where
  pub newest : (h : slots.History) → newest (x ∷ h) ≡ newest h
  pub served : (h : slots.History) → served (x ∷ h) ≡ served h

abbrev pub AreQuiet : slots.History → Type 0
AreQuiet [] = Unit {0}
AreQuiet (x ∷ xs) = IsQuiet x × AreQuiet xs

with_past : (b : Bool) (x : SlotsEvent) (p : slots.History) → served (x ∷ p) ≡ served p → served (cond b (x ∷ p) p) ≡ served p
with_past true x p same = same
with_past false x p same = refl

joined_lists : {A : Type 0} (x y : A) (xs ys : List A) → x ≡ y → xs ≡ ys → x ∷ xs ≡ y ∷ ys
joined_lists x y xs ys a b = cc

module _ {C : Type 0} where
  abbrev pub generations : List (SlotValue C) → List ℕ
  generations xs = map (λ (x : SlotValue C). x.serving.generation) xs

  quiet_slots : (gate : GateId) (i : ℕ) (cs : List C) (x : SlotsEvent) (h : slots.History)
      → ((p : slots.History) → served (x ∷ p) ≡ served p)
      → generations (slots_after gate i cs (x ∷ h)) ≡ generations (slots_after gate i cs h)
  quiet_slots gate i [] x h same = refl
  quiet_slots gate i (c ∷ cs) x h same =
      joined_lists _ _ _ _ (with_past (reaches i x) x (past_of i h) (same (past_of i h))) (quiet_slots gate (i + 1) cs x h same)

  quiet_words : (made : Made C) (es h : slots.History) → AreQuiet es → words_of (group_after made (es ++ h)) ≡ words_of (group_after made h)
  quiet_words made [] h q = refl
  quiet_words made (x ∷ es) h q =
      joined_lists _ _ _ _ (q.0.newest (es ++ h)) (quiet_slots made.gate 0 made.configs x (es ++ h) q.0.served) ∙ quiet_words made es h q.1

  -- after a call whose events are quiet the words are those of before
  pub quiet_stands : (made : Made C) (es h : slots.History) (v w : SlotsValue C) → AreQuiet es → StandsFor made h v
      → StandsFor made (es ++ h) w
      → words_of w ≡ words_of v
  quiet_stands made es h v w q s t =
      ap (λ (x : SlotsValue C). words_of x) t.shows ∙ quiet_words made es h q ∙ sym (ap (λ (x : SlotsValue C). words_of x) s.shows)

  pub quiet_call : {u v w : GroupValue C} (then_ : Made C → History → slots.History) → IsFounded u → u ≡ v
      → ((made : Made C) (e : History) → AreQuiet (then_ made e))
      → ((made : Made C) (e : History) → Stands made e v → Stands made (in_group (then_ made e) ++ e) w)
      → words_of w.group ≡ words_of v.group
  quiet_call {u} {v} {w} then_ p is quiet becomes =
      let made = p.0 in
      let e = p.1.0 in
      let s : Stands made e v = subst (λ (z : GroupValue C). Stands made e z) is p.1.1 in
      let t = becomes made e s in
      quiet_stands made (then_ made e) (slot_events e) v.group w.group (quiet made e) s.group
      (subst (λ (h : slots.History). StandsFor made h w.group) (group-joined (then_ made e) e) t.group)

  -- the settings of a backend are not the group's matter
  pub quiet_setting : {u v w : GroupValue C} {b : Member} {on : Bool} → IsFounded u → u ≡ v → Becomes v (Set b on ∷ []) w
      → words_of w.group ≡ words_of v.group
  quiet_setting {u} {v} {w} p is becomes =
      let made = p.0 in
      let e = p.1.0 in
      let s : Stands made e v = subst (λ (z : GroupValue C). Stands made e z) is p.1.1 in
      quiet_stands made [] (slot_events e) v.group w.group tt s.group (becomes made e s).group

-- a flight or a lost flight that is awaited is the last job, and above what is served
under_way_granted : (s g n : ℕ) (e : Extra) → is_under_way n e ≡ true → UnderWayFits s g e → (g ≡ n) × (s < n)
under_way_granted s g n slots.nothing up fits = absurd (cc)
under_way_granted s g n (slots.flight m) up fits =
    let same : m ≡ n = eqb-true m n up in let own : m ≡ g = fits.0 in let above : s < m = fits.1 in (omega arith, omega arith)
under_way_granted s g n (slots.lost m) up fits =
    let same : m ≡ n = eqb-true m n up in let own : m ≡ g = fits.0 in let above : s < m = fits.1 in (omega arith, omega arith)
under_way_granted s g n (slots.retired m) up fits = absurd (cc)
under_way_granted s g n (slots.taken_out m) up fits = absurd (cc)

module _ {C : Type 0} where
  published_slots : (gate : GateId) (i k j : ℕ) (cs : List C) (c : C) (ended : ℕ) (ms : List Member) (h : slots.History) → j ≡ i + k
      → slice_get cs k ≡ Some c
      → generations (slots_after gate i cs (slots.At j (slots.Published ended ms) ∷ h)) ≡ set (generations (slots_after gate i cs h)) k
      (granted (past_of j h))
  published_slots gate i k j cs c ended ms h at is =
      ap (λ (l : List (SlotValue C)). generations l) (event-slots gate i k j cs c (slots.Published ended ms) h at is)
      ∙ map-set (λ (x : SlotValue C). x.serving.generation) (slots_after gate i cs h) k
      (slot_after gate c (slots.At j (slots.Published ended ms) ∷ past_of j h))

  pub served_there : (gate : GateId) (i k j : ℕ) (cs : List C) (h : slots.History) → j ≡ i + k → k < length cs
      → (slice_index (generations (slots_after gate i cs h)) k ≡ served (past_of j h))
      × (k < length (generations (slots_after gate i cs h)))
  served_there gate i k j [] h at below = absurd (omega arith)
  served_there gate i zero j (c ∷ cs) h at below = (
    ap (λ (m : ℕ). served (past_of m h)) (let place : i ≡ j = omega (arith, at) in place),
    omega arith,
  )
  served_there gate i (suc k) j (c ∷ cs) h at below =
      let rest = served_there gate (i + 1) k j cs h (omega (arith, at)) (omega (arith, below)) in
      (rest.0, omega (arith, rest.1))

  -- what a publication does to the words
  pub record Raised (v w : SlotsValue C) (slot generation : ℕ) : Type 0 where
    pub place : slot < length (generations v.slots)
    pub rises : slice_index (generations v.slots) slot < generation
    pub led : generation ≤ v.newest
    pub newest : w.newest ≡ v.newest
    pub slots : generations w.slots ≡ set (generations v.slots) slot generation

  pub published_call : {u v w : GroupValue C} (b : BuiltValue C) (n : ℕ) → IsFounded u → u ≡ v
      → slice_get (configs_of v.group) b.task.slot ≡ Some b.task.config
      → ((made : Made C) (e : History) → Stands made e v → is_awaited b.task.slot b.task.generation (slot_events e) ≡ true)
      → Becomes v (in_group (publish_events b (Ok (told.Published n)))) w → Raised v.group w.group b.task.slot b.task.generation
  published_call {u} {v} {w} b n p is there awaited becomes =
      let made = p.0 in
      let e = p.1.0 in
      let h : slots.History = slot_events e in
      let slot : ℕ = b.task.slot in
      let s : Stands made e v = subst (λ (z : GroupValue C). Stands made e z) is p.1.1 in
      let t = becomes made e s in
      let own : slice_get made.configs slot ≡ Some b.task.config =
      ap (λ (l : List C). slice_get l slot) (sym (ap (λ (x : SlotsValue C). configs_of x) s.group.shows
      ∙ configs-after made.gate 0 made.configs h)) ∙ there in
      let up = under_way_granted (served (past_of slot h)) (granted (past_of slot h)) b.task.generation (extra (past_of slot h))
      (awaited made e s) (under-way-fits (past_of slot h) (s.group.possible slot)) in
      let here = served_there made.gate 0 slot slot made.configs h (omega arith) (slice_get_within made.configs slot b.task.config own) in
      let old : generations v.group.slots ≡ generations (slots_after made.gate 0 made.configs h) =
      ap (λ (x : SlotsValue C). generations x.slots) s.group.shows in
      let newest_is : v.group.newest ≡ newest h = ap (λ (x : SlotsValue C). x.newest) s.group.shows in
      let after = t.group.shows in
      let past_newest : newest (past_of slot h) ≡ newest h = newest-past slot h in
      let last = granted-newest (past_of slot h) in
      record {
        place = subst (λ (l : List ℕ). slot < length l) (sym old) here.1;
        rises = subst (λ (l : List ℕ). slice_index l slot < b.task.generation) (sym old) (omega (arith, here.0, up.1));
        led = omega (arith, newest_is, past_newest, last, up.0);
        newest = ap (λ (x : SlotsValue C). x.newest) after ∙ sym newest_is;
        slots =
            ap (λ (x : SlotsValue C). generations x.slots) after
            ∙ published_slots made.gate 0 slot slot made.configs b.task.config b.ended b.task.members h (omega arith) own
            ∙ ap (λ (m : ℕ). set (generations (slots_after made.gate 0 made.configs h)) slot m) up.0
            ∙ ap (λ (l : List ℕ). set l slot b.task.generation) (sym old);
      }

  -- a raise of the slot's word leaves the words as they are to be
  pub raised_slot : (v w : SlotsValue C) (words after : List ℕ) (slot generation : ℕ) → Raised v w slot generation → words ≡ words_of v
      → after ≡ set words (slot + 1) (max (slice_index words (slot + 1)) generation) → after ≡ words_of w
  raised_slot v w words after slot generation r is raised =
      raised ∙ ap (λ (l : List ℕ). set l (slot + 1) (max (slice_index l (slot + 1)) generation)) is
      ∙ subst (λ (k : ℕ). set (words_of v) k (max (slice_index (words_of v) k) generation) ≡ words_of w) (sym (add-one slot))
      (joined_lists _ _ _ _ (sym r.newest) (ap (λ (m : ℕ). set (generations v.slots) slot m) (let up = r.rises
      in let most : max (slice_index (generations v.slots) slot) generation ≡ generation = omega arith in most) ∙ sym r.slots))

  -- a membership that is no other one leaves the words
  pub unscheduled : {u v : GroupValue C} (w : GroupValue C) (members : List Member) (now : ℕ) (r : Scheduled) → IsFounded u → u ≡ v
      → r.changed ≡ false
      → ((made : Made C) (e : History) → Stands made e v → StandsFor made (schedule_events members now (Ok r) ++ slot_events e) w.group)
      → words_of w.group ≡ words_of v.group
  unscheduled {u} {v} w members now r p is same after =
      let made = p.0 in
      let e = p.1.0 in
      let s : Stands made e v = subst (λ (z : GroupValue C). Stands made e z) is p.1.1 in
      quiet_stands made [] (slot_events e) v.group w.group tt s.group
      (subst (λ (b : Bool). StandsFor made (cond b (slots.Scheduled members now ∷ []) [] ++ slot_events e) w.group) same (after made e s))

  -- another membership is the next generation
  pub record Renewed (v w : SlotsValue C) (generation : ℕ) : Type 0 where
    pub newest : w.newest ≡ generation
    pub next : generation ≡ v.newest + 1
    pub slots : generations w.slots ≡ generations v.slots

  pub scheduled : {u v : GroupValue C} (w : GroupValue C) (members : List Member) (now : ℕ) (r : Scheduled) → IsFounded u → u ≡ v
      → r.changed ≡ true
      → ((made : Made C) (e : History) → Stands made e v → Schedules made (slot_events e) members (Ok r))
      → ((made : Made C) (e : History) → Stands made e v → StandsFor made (schedule_events members now (Ok r) ++ slot_events e) w.group)
      → Renewed v.group w.group r.generation
  scheduled {u} {v} w members now r p is other answers after =
      let made = p.0 in
      let e = p.1.0 in
      let h : slots.History = slot_events e in
      let s : Stands made e v = subst (λ (z : GroupValue C). Stands made e z) is p.1.1 in
      let told = answers made e s in
      let change : is_change members h ≡ true = sym told.1 ∙ other in
      let next : r.generation ≡ newest h + 1 = told.2 ∙ ap (λ (b : Bool). cond b (newest h + 1) (newest h)) change in
      let t : StandsFor made (slots.Scheduled members now ∷ h) w.group =
      subst (λ (b : Bool). StandsFor made (cond b (slots.Scheduled members now ∷ []) [] ++ h) w.group) other (after made e s) in
      let before : v.group.newest ≡ newest h = ap (λ (x : SlotsValue C). x.newest) s.group.shows in
      record {
        newest = ap (λ (x : SlotsValue C). x.newest) t.shows ∙ sym next;
        next = next ∙ ap (λ (m : ℕ). m + 1) (sym before);
        slots =
            ap (λ (x : SlotsValue C). generations x.slots) t.shows ∙ quiet_slots made.gate 0 made.configs (slots.Scheduled members now) h
            (λ q. refl)
            ∙ sym (ap (λ (x : SlotsValue C). generations x.slots) s.group.shows);
      }

  -- a raise of the first word leaves the words as they are to be
  pub raised_newest : (v w : SlotsValue C) (words after : List ℕ) (generation : ℕ) → Renewed v w generation → words ≡ words_of v
      → after ≡ set words 0 (max (slice_index words 0) generation) → after ≡ words_of w
  raised_newest v w words after generation r is raised =
      raised ∙ ap (λ (l : List ℕ). set l 0 (max (slice_index l 0) generation)) is
      ∙ joined_lists _ _ _ _ (let next = r.next in let now = r.newest in let most : max v.newest generation ≡ w.newest = omega arith
      in most) (sym r.slots)

-- which calls have quiet events
abbrev IsQuietAt : SlotEvent → Type 0
IsQuietAt e = (i : ℕ) → IsQuiet (slots.At i e)

quiet_at : (e : SlotEvent) → ((i : ℕ) (h : slots.History) → served (slots.At i e ∷ h) ≡ served h) → IsQuietAt e
quiet_at e same i = record { newest = λ h. refl; served = same i }

pub quiet_done : {A B : Type 0} (slot : ℕ) (e : SlotEvent) (r : Result A B)
    → ((i : ℕ) (h : slots.History) → served (slots.At i e ∷ h) ≡ served h) → AreQuiet (done_at slot e r)
quiet_done slot e (Ok a) same = (quiet_at e same slot, tt)
quiet_done slot e (Err b) same = tt

quiet_asked : (slot now : ℕ) (a : _) → AreQuiet (asked_events slot now a)
quiet_asked slot now slots.cancelled = tt
quiet_asked slot now slots.building = tt
quiet_asked slot now slots.up_to_date = tt
quiet_asked slot now (slots.not_due m) = tt
quiet_asked slot now slots.busy = tt
quiet_asked slot now slots.job = (record { newest = λ h. refl; served = λ h. refl }, tt)

pub quiet_ask : {S C W : Type 0} (slot now : ℕ) (r : Result (Ask S C W) Refusal) → AreQuiet (ask_events slot now r)
quiet_ask slot now (Ok a) = quiet_asked slot now (ask_told a)
quiet_ask slot now (Err e) = tt

pub quiet_fail : {C : Type 0} (j : Task C) (now : ℕ) (r : Result (Unit {0}) (Task C)) → AreQuiet (fail_events j now r)
quiet_fail j now (Ok u) = (record { newest = λ h. refl; served = λ h. refl }, tt)
quiet_fail j now (Err k) = tt

pub quiet_abandon : {C : Type 0} (b : BuiltValue C) (r : Result (Unit {0}) (BuiltValue C)) → AreQuiet (abandon_events b r)
quiet_abandon b (Ok u) = (record { newest = λ h. refl; served = λ h. refl }, tt)
quiet_abandon b (Err k) = tt

pub quiet_ticket : {C : Type 0} (made : Made C) (slot n t : ℕ) (h : slots.History) → AreQuiet (ticket_events made slot n t h)
quiet_ticket made slot n t h = by_selector (serves made slot n h) (has_retired made slot n h)
  where
    by_selector : (b d : Bool)
        → AreQuiet (cond b (slots.At slot (slots.Drew ((t + 1) % 2 ^ 64)) ∷ [])
        (cond d (slots.At slot (slots.DrewRetired ((t + 1) % 2 ^ 64)) ∷ []) []))
    by_selector true d = (record { newest = λ h. refl; served = λ h. refl }, tt)
    by_selector false true = (record { newest = λ h. refl; served = λ h. refl }, tt)
    by_selector false false = tt

pub quiet_cancel : AreQuiet (slots.Cancelled ∷ [])
quiet_cancel = (record { newest = λ h. refl; served = λ h. refl }, tt)

-- a selector that is handed back, or retired unserved, changes no word
pub quiet_publish : {C : Type 0} (b : BuiltValue C) (n : ℕ) → AreQuiet (publish_events b (Ok (told.Abandoned n)))
quiet_publish b n = (record { newest = λ h. refl; served = λ h. refl }, tt)
