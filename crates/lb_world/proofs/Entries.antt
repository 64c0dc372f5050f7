-- A step at a group, by what it leaves of the group's entry, once for all kinds; then the steps of a slot's job: it is granted,
-- built or fails, and comes back, and what is held of it is the last job.
use Rattle.lb_rebuild_core.proofs.Pasts.{lt-false}
use Rattle.lb_rebuild_core.specs.SlotsCalls.{Asks, IsJob, asked_events, is_awaited, is_owed, is_served, publish_answer, publish_events}
use Rattle.lb_rebuild_core.specs.SlotsCalls.{taken_refusal}
use Rattle.lb_rebuild_core.specs.SlotsHistory.{AskAnswer, ask_answer, extra, generation_of, is_under_way, job}
use Rattle.lb_rebuild_core.specs.SlotCalls.{asked_gate}
use Rattle.lb_rebuild_core.specs.Values.{BuiltValue}
use Rattle.lb_rebuild_core.specs.declared.answers.Ask.{Ask}
use Rattle.lb_rebuild_core.specs.declared.answers.Publication.{Publication}
use Rattle.lb_health_view.specs.RegistrySide.{registry_released}
use Rattle.lb_world.proofs.Accepted.{job-may}
use Rattle.lb_world.proofs.Extras.{free-in}
use Rattle.lb_world.proofs.Placing.{here, same-either}
use Rattle.lb_world.proofs.Runs.{under_way}
use Rattle.lb_world.proofs.Together.{views-of}
use Rattle.lb_world.specs.Answers.{flight_of, asked, built_or_failed, destroy_refusal, of_built, of_job}
use Rattle.lb_world.specs.History.{gate_of, is_grant, is_held}
use Rattle.lb_world.specs.Shared.{registry_in, registry_made, extra_at}
use Rattle.lb_world.specs.Internal.Calls.{IsUngranted, told_as}
use Rattle.lb_world.specs.Stands.{AreHeld}
use Rattle.lb_world.specs.Views.{NotBuilding, NotBuilt}
use Rattle.lb_world.specs.Works.{last_job}
use Rattle.std.proofs.lemmas.Bool.{eqb-true}
use Rattle.std.proofs.lemmas.Grind.{common_steps}
use Rattle.lb_rebuild_core.specs.GroupStates as stands
use Rattle.lb_rebuild_core.specs.SlotsHistory as slots
use Rattle.lb_rebuild_core.specs.GroupHistory as group
use Rattle.lb_health_core.specs.RegistryEvents as registry
use Rattle.lb_rebuild_core.specs.Stands as group-made
use Rattle.lb_world.proofs.Refusing.{groups-alike}
use Rattle.lb_world.proofs.Words.{◌∙◌, ◌⊎◌, ◌++◌, ◌≡◌, ◌&&◌, ◌∷◌, ◌==◌, [], ◌<◌, ◌≤◌, and_parts, Answer, right_answer, Answers, ap, ap2}
use Rattle.lb_world.proofs.Words.{arith, ask_told, At, at_one, at_slot, Before, Bool, changed, cond, config, config_in, configs_of, EntryIs}
use Rattle.lb_world.proofs.Words.{EntryNext, EntryValue, eq-eqb, false, false≢true, gate, GateId, gates, GateValue, granted}
use Rattle.lb_world.proofs.Words.{granted_members}
use Rattle.lb_world.proofs.Words.{group-of, group_at, slot_events, GroupId, happened, held_of, History, inl, inr, is_at, IsRegistryAfter}
use Rattle.lb_world.proofs.Words.{IsRun, group_after_step, group_events, GroupValue, key_at, key_gives, key_in, key_of, length, length-set}
use Rattle.lb_world.proofs.Words.{List, list_all, load_in, load_of, lt-ltb, made, made_at, made_of, Meaning, Member, members-past}
use Rattle.lb_world.proofs.Words.{members_of, nat_lt, newest, newest-past, no_such, None, none-some, Ok, Option, option_map, origin, Origin}
use Rattle.lb_world.proofs.Words.{members-kept, past, past-other, past-same, past_of, permit_after, refl, Refusal, refused-alike}
use Rattle.lb_world.proofs.Words.{registries}
use Rattle.lb_world.proofs.Words.{registry_at, registry_events, registry_of, RegistryValue, same_Some, shares, site, slice_get}
use Rattle.lb_world.proofs.Words.{slice_get_past, slice_get_within, slice_set, slots-fit, Some, Step, subst, sym, Task, there-at, true}
use Rattle.lb_world.proofs.Words.{unless_refused, view_events, views_of, with_core, without_memory, Work, work, worked, works_at, WorkValue}
use Rattle.lb_world.proofs.Own.{drew}
use Rattle.lb_world.proofs.Words.{WorldRule, ℕ, get_set, joined-after, own-step, set-same, there}

-- an event that is no grant leaves the last job
abbrev no_grant : slots.SlotsEvent → Bool
no_grant (At i (slots.Granted now)) = false
no_grant e = true

abbrev last : slots.History → ℕ × List Member
last p = (granted p, granted_members p)

one-kept : (e : slots.SlotsEvent) (p : slots.History) → no_grant e ≡ true → last (e ∷ p) ≡ last p
one-kept (At i (slots.Granted now)) p free = absurd (cc)
one-kept e p free = refl

no-draws : {C : Type 0} (o : Option C) (s t : ℕ) → list_all no_grant (drew o s t) ≡ true
no-draws None s t = refl
no-draws (Some c) s t = refl

no-grants : {C : Type 0} (h : History C) (k : slots.History) (st : Step C) (a : Answer) → is_grant st a ≡ false
    → list_all no_grant (happened h k st a) ≡ true
no-grants h k (Step.ask g s now) (Answer.Build n) free = absurd (cc)
no-grants h k (Step.select g s key limit words) (Answer.Backend b t) free = no-draws (config g s h) s t
no-grants h k (Step.select g s key limit words) (Answer.NoBackend t) free = no-draws (config g s h) s t
no-grants h k (Step.select g s key limit words) (Answer.NotSelected t) free = no-draws (config g s h) s t
no-grants h k st (Answer.Refused r) free = refl
no-grants h k st a free = refl

jobs-kept : (s : ℕ) (es k : slots.History) → list_all no_grant es ≡ true → last (past_of s (es ++ k)) ≡ last (past_of s k)
jobs-kept s [] k free = refl
jobs-kept s (e ∷ es) k free =
    let parts = and_parts (no_grant e) (list_all no_grant es) free in
    grind (arith, one-kept e (past_of s (es ++ k)) parts.0, jobs-kept s es k parts.1)

abbrev job-of : {C : Type 0} → Origin → ℕ → C → ℕ × List Member → Task C
job-of o s c j = record { group = o.id; slot = s; generation = j.0; members = j.1; config = c; permit = o.gate }

held-by : {C : Type 0} (o : Origin) (s : ℕ) (c : C) (p q : slots.History) (w : Work) → last p ≡ last q
    → held_of o s c p w ≡ held_of o s c q w
held-by o s c p q Work.idle e = refl
held-by o s c p q Work.building e = ap (λ j. WorkValue.building (job-of o s c j)) e
held-by o s c p q (Work.built now) e = ap (λ j. WorkValue.built (record { task = job-of o s c j; ended = now })) e

pub taken : {A : Type 0} (x y : A) (g : ℕ) (o : Option ℕ) → o ≡ Some g → cond (is_at g o) x y ≡ x
taken x y g o at = ap (λ b. cond b x y) (ap (is_at g) at ∙ eq-eqb g g refl)

-- a slot is in a list of configurations, or not
pub slot-or : {C : Type 0} (cs : List C) (s : ℕ) → ((slice_get cs s ≡ None) × (nat_lt s (length cs) ≡ false))
    ⊎ ((c : C) × (slice_get cs s ≡ Some c) × (nat_lt s (length cs) ≡ true))
slot-or cs s =
    elim (there cs s) [
      | inl none ↦ inl (none.0, lt-false s (length cs) none.1)
      | inr is ↦ inr (is.0, is.1, lt-ltb s (length cs) (slice_get_within cs s is.0 is.1))
    ]

-- a refusal leaves the permit where it is
unmoved : {C : Type 0} (st : Step C) (r : Refusal) (out : Bool) → permit_after st (Answer.Refused r) out ≡ out
unmoved (Step.ask g s now) r out = refl
unmoved st r out = refl

-- the core after a call, by what happened to it
abbrev pub Moves : {C : Type 0} → EntryValue C → group.History → GroupValue C → Type 0
Moves e es core = stands.SameSite e.core core × stands.Stands (site e.core) es core

pub same-flight : (e : slots.Extra) → flight_of e ≡ cond (slots.is_flight e) (Some (slots.flight_number e)) None
same-flight slots.nothing = refl
same-flight e = refl

module _ {C : Type 0} where
  -- a step at a group makes nothing
  pub record AtGroup (h : History C) (st : Step C) (a : Answer) (g : ℕ) : Type 0 where
    pub group_is : group_at h st ≡ Some g
    pub registry_is : registry_at h st ≡ registry_of g h
    pub made_are : made ((st, a) ∷ h) ≡ made h
    pub gates_are : gates ((st, a) ∷ h) ≡ gates h
    pub registries_are : registries ((st, a) ∷ h) ≡ registries h

  pub at-group : (h : History C) (st : Step C) (a : Answer) (g : ℕ) → group_at h st ≡ Some g → AtGroup h st a g
  at-group h (Step.registry rule healthy) a g at = absurd (none-some g at)
  at-group h Step.gate a g at = absurd (none-some g at)
  at-group h (Step.group r b cs) a g at = absurd (none-some g at)
  at-group h (Step.targets r) a g at = absurd (none-some g at)
  at-group h (Step.verdict r c ok threshold) a g at = absurd (none-some g at)
  at-group h st a g at =
      record { group_is = at; registry_is = ap (registry_in h) at; made_are = refl; gates_are = refl; registries_are = refl }

  -- what the group's own tables tell of it
  pub events-here : (h : History C) (st : Step C) (a : Answer) (g : ℕ) → group_at h st ≡ Some g
      → slot_events g ((st, a) ∷ h) ≡ happened h (slot_events g h) st a ++ slot_events g h
  events-here h st a g at = own-step g h st a ∙ taken _ (slot_events g h) g (group_at h st) at

  pub joined-here : (h : History C) (st : Step C) (a : Answer) (g : ℕ) → group_at h st ≡ Some g
      → group_events g ((st, a) ∷ h) ≡ group_after_step h (slot_events g h) (group_events g h) st a
  joined-here h st a g at = joined-after g h st a ∙ taken _ (group_events g h) g (group_at h st) at

module _ {C : Type 0} {h : History C} {g : ℕ} {e : EntryValue C} (is : EntryIs h g e) where
  -- what is said of an entry's group
  pub config-here : (s : ℕ) → config g s h ≡ slice_get (configs_of e.core.group) s
  config-here s = ap (config_in s) is.made_is

  pub registry-here : registry_of g h ≡ Some e.registry
  registry-here = ap (λ o. option_map (λ m. m.registry) o) is.made_is

  pub gate-here : gate_of g h ≡ Some e.gate
  gate-here = ap (λ o. option_map (λ m. m.gate) o) is.made_is

  pub key-here : key_of g h ≡ key_at e.registry h
  key-here = ap (λ o. key_in (registry_made o h)) registry-here

  pub group-told : (a : Answer) → at_one (made_at g h) (λ m. a) ≡ a
  group-told a = ap (λ o. at_one o (λ m. a)) is.made_is

  pub views-are : views_of (site e.core) (group_events g h) ≡ view_events g h
  views-are = views-of g h (made_of e) is.made_is

  -- the core, where no call moved it
  pub stays : Moves e (group_events g h) e.core
  stays = (record { group = record { id = refl; gate = refl; configs = refl }; id = refl; registry = refl }, is.core_is)

  -- what was read of a slot's past
  pub reading-told : {A : Type 0} (s : ℕ) (f : slots.History → A) (tells : A → Answer) (r : Option A)
      → r ≡ at_slot (site e.core) s (f (past_of s (group.slot_events (group_events g h))))
      → at_one (config g s h) (λ c. tells (f (past g s h))) ≡ at_one r tells
  reading-told s f tells r to =
      rw (to, config-here s, ← group-of g h)
      (elim (slot-or (configs_of e.core.group) s) [ inl p ↦ rw (p.0, p.1) refl | inr p ↦ rw (p.1, p.2) refl ])

module _ {C : Type 0} {M : Meaning C} {h : History C} {g : ℕ} {e : EntryValue C} {z : GateValue} {v : RegistryValue WorldRule}
    (b : Before M h g e z v) where
  -- the registry is what the history says, and is the group's own
  abbrev pub IsShared : Step C → Answer → RegistryValue WorldRule → Type 0
  IsShared st a u =
      IsRegistryAfter key_gives (key_of g h) (registry_events e.registry ((st, a) ∷ h)) u × (u.id ≡ e.core.registry)

  -- the registry, by what happened to it
  pub shared : (st : Step C) (a : Answer) {es : List registry.Event} {u : RegistryValue WorldRule} → group_at h st ≡ Some g
      → changed h ((st, a) ∷ h) st a (registry_events e.registry h) ≡ es → IsRegistryAfter key_gives (key_of g h) es u
      → u.id ≡ v.id → IsShared st a u
  shared st a {u = u} at is kept one = (
    subst (λ es. IsRegistryAfter key_gives (key_of g h) es u)
        (sym
        (taken _ (registry_events e.registry h) e.registry (registry_at h st)
        ((at-group h st a g at).registry_is ∙ registry-here b.is) ∙ is))
        kept,
    one ∙ b.own,
  )

  pub unshared : (st : Step C) (a : Answer) → group_at h st ≡ Some g
      → changed h ((st, a) ∷ h) st a (registry_events e.registry h) ≡ registry_events e.registry h
      → IsShared st a v
  unshared st a at is = shared st a at is b.kept refl

  -- a right step, by the core, the works and the loads after it
  pub next : {st : Step C} {a : Answer} {core : GroupValue C} (ws : List (WorkValue C)) (ls : List (Member × ℕ)) {y : GateValue}
      {u : RegistryValue WorldRule} → group_at h st ≡ Some g → Answers M h st a
      → Moves e (group_after_step h (slot_events g h) (group_events g h) st a) core → length ws ≡ length e.works
      → AreHeld ((st, a) ∷ h) g e ws → ((m : Member) → load_in ls m ≡ load_of g m ((st, a) ∷ h))
      → y ≡ gate z.id (permit_after st a z.out) → IsShared st a u
      → EntryNext M h g st a e z (record e { core = core; works = ws; loads = ls }) y u
  next {st} {a} {core} ws ls at right moves count held loads out kept =
      let same = moves.0 in
      let origin-is : origin core ≡ origin e.core =
      ap2 (λ i a. record { id = i; gate = a }) same.group.id same.group.gate in
      record {
        right = right;
        is =
            record {
              made_is = ap (λ ms. slice_get ms g) (at-group h st a g at).made_are ∙ b.is.made_is
                  ∙ ap2 (λ i cs. Some (record { registry = e.registry; gate = e.gate; view = i; configs = cs }))
                  (sym same.id) (sym same.group.configs);
              core_is = rw (← joined-here h st a g at, ← same.group.id, ← same.group.gate, ← same.group.configs) at moves.1;
              works_in = count ∙ b.is.works_in ∙ ap length (sym same.group.configs);
              works_are = λ s c k cs ks.
                  held s c k (sym (ap (λ xs. slice_get xs s) same.group.configs) ∙ cs) ks
                  ∙ ap (λ o. held_of o s c (past g s ((st, a) ∷ h)) (work g s ((st, a) ∷ h))) (sym origin-is);
              loads_are = loads;
            };
        registry_is = refl;
        gate_is = refl;
        origin_is = origin-is;
        out = out;
        kept = kept.0;
        one = same.registry;
        own = kept.1 ∙ sym same.registry;
      }

  -- one that moves the core, and none of the works
  pub next-core : {st : Step C} {a : Answer} {core : GroupValue C} {y : GateValue} {u : RegistryValue WorldRule} → group_at h st ≡ Some g
      → Answers M h st a → Moves e (group_after_step h (slot_events g h) (group_events g h) st a) core
      → is_grant st a ≡ false → ((x : Work) → worked st a x ≡ x)
      → ((m : Member) → load_of g m ((st, a) ∷ h) ≡ load_of g m h) → y ≡ gate z.id (permit_after st a z.out)
      → IsShared st a u → EntryNext M h g st a e z (with_core core e) y u
  next-core {st} {a} at right moves free stay loads out kept =
      next {st = st} {a = a} e.works e.loads at right moves refl
      (λ s c k cs ks.
      b.is.works_are s c k cs ks
      ∙ held-by (origin e.core) s c (past g s h) (past_of s (happened h (slot_events g h) st a ++ slot_events g h)) (work g s h)
      (sym (jobs-kept s (happened h (slot_events g h) st a) (slot_events g h) (no-grants h (slot_events g h) st a free)))
      ∙ ap2 (held_of (origin e.core) s c) (ap (past_of s) (sym (events-here h st a g at)))
      (sym (ap (λ x. cond (works_at g s st) x (work g s h)) (stay (work g s h)) ∙ same-either (works_at g s st) (work g s h))))
      (λ m. b.is.loads_are m ∙ sym (loads m)) out kept

  -- a refusal after which the core is in the state after the same events leaves all else
  pub next-refused : {st : Step C} {r : Refusal} {core : GroupValue C} → group_at h st ≡ Some g → Answers M h st (Answer.Refused r)
      → Moves e (group_events g h) core → EntryNext M h g st (Answer.Refused r) e z (with_core core e) z v
  next-refused {st} {r} {core} at right moves =
      let told = refused-alike h st r in
      next {st = st} {a = Answer.Refused r} e.works e.loads at right (
        moves.0,
        subst (λ es. stands.Stands (site e.core) es core) (sym (told.joined g) ∙ joined-here h st (Answer.Refused r) g at) moves.1,
      )
      refl
      (λ s c k cs ks.
      b.is.works_are s c k cs ks
      ∙ ap2 (held_of (origin e.core) s c) (ap (past_of s) (sym (groups-alike ((st, Answer.Refused r) ∷ h) h told g)))
      (sym (told.rest.works g s)))
      (λ m. b.is.loads_are m ∙ sym (told.rest.loads g m)) (ap (gate z.id) (sym (unmoved st r z.out)))
      (subst (λ es. IsRegistryAfter key_gives (key_of g h) es v) (sym (told.rest.shared e.registry)) b.kept, b.own)

  -- one that writes the place of one slot, where no other slot saw an event
  pub next-work : (s : ℕ) {st : Step C} {a : Answer} {core : GroupValue C} {old new : WorkValue C} {y : GateValue}
      {u : RegistryValue WorldRule} → group_at h st ≡ Some g → Answers M h st a → slice_get e.works s ≡ Some old
      → Moves e (group_after_step h (slot_events g h) (group_events g h) st a) core
      → ((r : ℕ) → ¬ (r ≡ s) → past_of r (happened h (slot_events g h) st a ++ slot_events g h) ≡ past g r h)
      → ((r : ℕ) → works_at g r st ≡ (g == g && s == r))
      → ((c : C) → slice_get (configs_of e.core.group) s ≡ Some c
      → new ≡ held_of (origin e.core) s c (past_of s (happened h (slot_events g h) st a ++ slot_events g h)) (worked st a (work g s h)))
      → ((m : Member) → load_of g m ((st, a) ∷ h) ≡ load_of g m h) → y ≡ gate z.id (permit_after st a z.out)
      → IsShared st a u
      → EntryNext M h g st a e z (record e { core = core; works = slice_set e.works s new }) y u
  next-work s {st} {a} {old = old} {new = new} at right was moves pasts places placed loads out kept =
      let events = events-here h st a g at in
      let now = λ (r : ℕ) (c : C). held_of (origin e.core) r c (past g r ((st, a) ∷ h)) (work g r ((st, a) ∷ h)) in
      let at-slot = λ (r : ℕ) (c : C) (q : slots.History) (t : Bool).
      held_of (origin e.core) r c (past_of r q) (cond t (worked st a (work g r h)) (work g r h)) in
      next {st = st} {a = a} (slice_set e.works s new) e.loads at right moves (length-set e.works s new)
      (λ r c k cs ks.
      elim (get_set e.works s r old new k was ks) [
        | inl p ↦
            p.1 ∙ placed c (ap (slice_get (configs_of e.core.group)) (sym p.0) ∙ cs)
            ∙ ap2 (at-slot s c) (sym events) (sym (places s ∙ here g s)) ∙ ap (λ i. now i c) (sym p.0)
        | inr p ↦
            let off : (g == g && s == r) ≡ false = grind (arith, common_steps, p.0) in
            b.is.works_are r c k cs p.1
            ∙ ap (λ q. held_of (origin e.core) r c q (work g r h)) (sym (pasts r p.0) ∙ ap (past_of r) (sym events))
            ∙ ap (at-slot r c (slot_events g ((st, a) ∷ h))) (sym (places r ∙ off))
      ])
      (λ m. b.is.loads_are m ∙ sym (loads m)) out kept

-- what is held of a job, as its task and what has become of it
abbrev pub shown : {C : Type 0} → WorkValue C → Option (Task C × Work)
shown WorkValue.nothing = None
shown (WorkValue.building t) = Some (t, Work.building)
shown (WorkValue.built b) = Some (b.task, Work.built b.ended)

is-held : {C : Type 0} (o : Origin) (s : ℕ) (c : C) (p : slots.History) (w u : Work) (k : WorkValue C) (t : Task C)
    → k ≡ held_of o s c p w → shown k ≡ Some (t, u) → (w ≡ u) × (t ≡ last_job o s c p)
is-held o s c p Work.idle u k t e to = absurd (none-some (t, u) (sym (ap shown e) ∙ to))
is-held o s c p w u k t e to =
    let same = same_Some (last_job o s c p, w) (t, u) (sym (ap shown e) ∙ to) in (ap (λ x. x.1) same, sym (ap (λ x. x.0) same))

not-built : {C : Type 0} (o : Origin) (s : ℕ) (c : C) (p : slots.History) (w : Work) (a : Answer) (k : WorkValue C)
    → k ≡ held_of o s c p w → NotBuilt k → Answer.Refused Refusal.NothingBuilt ≡ of_built w a
not-built o s c p (Work.built now) a k e off = absurd (subst NotBuilt e off)
not-built o s c p w a k e off = refl

not-building : {C : Type 0} (o : Origin) (s : ℕ) (c : C) (p : slots.History) (w : Work) (a : Answer) (k : WorkValue C)
    → k ≡ held_of o s c p w → NotBuilding k → Answer.Refused Refusal.NothingInFlight ≡ of_job w a
not-building o s c p Work.building a k e off = absurd (subst NotBuilding e off)
not-building o s c p w a k e off = refl

-- what is under_way is of that generation
under_way-number : (n : ℕ) (e : slots.Extra) → is_under_way n e ≡ true → generation_of e ≡ n
under_way-number n (slots.flight m) up = eqb-true m n up
under_way-number n (slots.lost m) up = eqb-true m n up
under_way-number n e up = absurd (cc)

-- nothing is held where a job is granted
grounded : (w : Work) → false ≡ is_held w → w ≡ Work.idle
grounded Work.idle e = refl
grounded w e = absurd (cc)

same-task : {C : Type 0} {i k : GroupId} {s t n m : ℕ} {xs ys : List Member} {c d : C} {p q : GateId}
    → i ≡ k → s ≡ t → n ≡ m → xs ≡ ys → c ≡ d → p ≡ q
    → (let left : Task C = record { group = i; slot = s; generation = n; members = xs; config = c; permit = p } in
    let right : Task C = record { group = k; slot = t; generation = m; members = ys; config = d; permit = q } in
    left ≡ right)
same-task w a b e f u = cc

-- what is held of a job: that job, of a slot that is there
pub record Holds {C : Type 0} (h : History C) (g s : ℕ) (e : EntryValue C) (t : Task C) (w : Work) : Type 0 where
  pub config : C
  pub there : slice_get (configs_of e.core.group) s ≡ Some config
  pub work_is : work g s h ≡ w
  pub is : t ≡ last_job (origin e.core) s config (past g s h)

module _ {C : Type 0} {h : History C} {g : ℕ} {e : EntryValue C} (is : EntryIs h g e) where
  pub slot-there : (s : ℕ) (k : WorkValue C) → slice_get e.works s ≡ Some k → (c : C) × (slice_get (configs_of e.core.group) s ≡ Some c)
  slot-there s k at =
      let low : s < length (configs_of e.core.group) = omega (arith, is.works_in, slice_get_within e.works s k at) in
      there-at (configs_of e.core.group) s low

  pub holds : {s : ℕ} {k : WorkValue C} (t : Task C) (w : Work) → slice_get e.works s ≡ Some k → shown k ≡ Some (t, w) → Holds h g s e t w
  holds {s} {k} t w at to =
      let c = slot-there s k at in
      let p = is-held (origin e.core) s c.0 (past g s h) (work g s h) w k t (is.works_are s c.0 k c.1 at) to in
      record { config = c.0; there = c.1; work_is = p.0; is = p.1 }

  -- a slot that isn't there, and a place where nothing built is, or no job
  pub beyond : (s : ℕ) (f : C → Answer) → length e.works ≤ s → Answer.Refused Refusal.NoSuch ≡ at_one (config g s h) f
  beyond s f past =
      let few : length (configs_of e.core.group) ≤ s = omega (arith, is.works_in, past) in
      sym (ap (λ o. at_one o f) (config-here is s ∙ slice_get_past (configs_of e.core.group) s few))

  pub unbuilt : (s : ℕ) (k : WorkValue C) (a : Answer) → slice_get e.works s ≡ Some k → NotBuilt k
      → Answer.Refused Refusal.NothingBuilt ≡ at_one (config g s h) (λ c. of_built (work g s h) a)
  unbuilt s k a at off =
      let c = slot-there s k at in
      rw (config-here is s ∙ c.1)
      (not-built (origin e.core) s c.0 (past g s h) (work g s h) a k (is.works_are s c.0 k c.1 at) off)

  pub unstarted : (s : ℕ) (k : WorkValue C) (a : C → Answer) → slice_get e.works s ≡ Some k → NotBuilding k
      → Answer.Refused Refusal.NothingInFlight ≡ at_one (config g s h) (λ c. of_job (work g s h) (a c))
  unstarted s k a at off =
      let c = slot-there s k at in
      rw (config-here is s ∙ c.1)
      (not-building (origin e.core) s c.0 (past g s h) (work g s h) (a c.0) k (is.works_are s c.0 k c.1 at) off)

  -- where a job is granted nothing is held
  pub free-place : (M : Meaning C) → IsRun M h → (s now : ℕ) (out : Bool) (k : WorkValue C)
      → job ≡ ask_answer (past_of s (group.slot_events (group_events g h))) out now → slice_get e.works s ≡ Some k
      → k ≡ WorkValue.nothing
  free-place M run s now out k to at =
      let c = slot-there s k at in
      let may = job-may (past g s h) out now (sym (to ∙ ap (λ q. ask_answer (past_of s q) out now) (group-of g h))) in
      is.works_are s c.0 k c.1 at
      ∙ ap (held_of (origin e.core) s c.0 (past g s h))
      (grounded (work g s h) (sym (ap (is_under_way (granted (past g s h))) may.0) ∙ (slots-fit M h run g s).1))

  module _ {s : ℕ} {t : Task C} {w : Work} (has : Holds h g s e t w) where
    pub told-work : (f : C → Work → Answer) → at_one (config g s h) (λ c. f c (work g s h)) ≡ f has.config w
    told-work f = ap2 (λ o u. at_one o (λ c. f c u)) (config-here is s ∙ has.there) has.work_is

    -- it is the group's own, and awaited
    pub own-task : (t.group ≡ e.core.group.id) × (t.permit ≡ e.core.group.gate) ×
        (slice_get (configs_of e.core.group) t.slot ≡ Some t.config)
    own-task = (ap (λ x. x.group) has.is, ap (λ x. x.permit) has.is, rw has.is has.there)

    pub unawaited : (M : Meaning C) → IsRun M h → is_held w ≡ true
        → is_awaited t.slot t.generation (group.slot_events (group_events g h)) ≡ false → ⊥
    unawaited M run held off =
        false≢true (sym off ∙ rw (has.is, group-of g h) (under_way M h g s w (slots-fit M h run) has.work_is held))

-- an event at a slot is none of another's
pub elsewhere : (s : ℕ) (v : slots.SlotEvent) (k : slots.History) (r : ℕ) → ¬ (r ≡ s) → past_of r (At s v ∷ k) ≡ past_of r k
elsewhere s v k r off = past-other r s v k (λ p. off (sym p))

module _ {C : Type 0} {M : Meaning C} {h : History C} {g : ℕ} {e : EntryValue C} {z : GateValue} {v : RegistryValue WorldRule}
    (b : Before M h g e z v) where
  -- a place written as it was
  pub left-so : (s : ℕ) {st : Step C} {r : Refusal} {x k : WorkValue C} → slice_get e.works s ≡ Some x → k ≡ x → group_at h st ≡ Some g
      → Answers M h st (Answer.Refused r) → EntryNext M h g st (Answer.Refused r) e z (record e { works = slice_set e.works s k }) z v
  left-so s {st} {r} at same here right =
      subst (λ ws. EntryNext M h g st (Answer.Refused r) e z (record e { works = ws }) z v)
      (sym (ap (slice_set e.works s) same ∙ set-same e.works s _ at)) (next-refused b here right (stays b.is))

  -- the snapshot of what was in the slot is released, in the same registry
  abbrev pub Releases : ℕ → RegistryValue WorldRule → Type 0
  Releases n u =
      IsRegistryAfter key_gives (key_of g h)
      (registry_released e.core.view.id n (views_of (site e.core) (group_events g h)) (registry_events e.registry h)) u × (u.id ≡ v.id)

  released : (s n : ℕ) (es : List registry.Event) (u : RegistryValue WorldRule) → n ≡ extra_at g s h
      → es ≡ registry_released e.core.view.id (extra_at g s h) (view_events g h) (registry_events e.registry h) → Releases n u
      → IsRegistryAfter key_gives (key_of g h) es u × (u.id ≡ e.core.registry)
  released s n es u of new kept = (rw (new, ← of, ← views-are b.is) kept.0, kept.1 ∙ b.own)

  -- what a slot answers: another answer than a job changes nothing
  ask-right : (s now : ℕ) (t : AskAnswer) → s < length (configs_of e.core.group)
      → t ≡ ask_answer (past_of s (group.slot_events (group_events g h))) z.out now
      → Answers M h (Step.ask g s now) (asked (slots.newest (slot_events g h)) t)
  ask-right s now t within to =
      inl (rw (b.is.made_is, (there-at (configs_of e.core.group) s within).1)
      (ap (asked (slots.newest (slot_events g h))) (rw (group-of g h, b.out, ← free-in M h b.run e.gate) at to)))

  pub next-asked : {S W : Type 0} {s now : ℕ} (a : Ask S C W) (t : AskAnswer) {x : Answer} {core : GroupValue C} {y : GateValue}
      → ask_told a ≡ t → IsUngranted t x → Asks (site e.core) (group.slot_events (group_events g h)) s z.out now (Ok a)
      → Moves e (group.in_group (asked_events s now (ask_told a)) ++ group_events g h) core → y ≡ asked_gate (ask_told a) z
      → EntryNext M h g (Step.ask g s now) x e z (with_core core e) y v
  next-asked a job told is answers moves back = absurd is
  next-asked {s = s} {now = now} a t told is answers moves back =
      rw is
      (next-core b refl (ask-right s now t answers.0 (sym told ∙ answers.1)) (rw told at moves) refl (λ r. refl) (λ m. refl)
      (rw told at back) (unshared b (Step.ask g s now) (asked (slots.newest (slot_events g h)) t) refl refl))

  pub next-unasked : {s now : ℕ} (r : Refusal) {core : GroupValue C} → r ≡ Refusal.NoSuch → length (configs_of e.core.group) ≤ s
      → Moves e (group_events g h) core → EntryNext M h g (Step.ask g s now) (Answer.Refused r) e z (with_core core e) z v
  next-unasked {s = s} r no_such past moves =
      next-refused b refl (inl (rw (b.is.made_is, slice_get_past (configs_of e.core.group) s past) (ap Answer.Refused no_such))) moves

  pub does-grant : {S W : Type 0} {s now : ℕ} (a : Ask S C W) (j : Task C) {core : GroupValue C} {old : WorkValue C} {y : GateValue}
      → ask_told a ≡ job → Asks (site e.core) (group.slot_events (group_events g h)) s z.out now (Ok a)
      → IsJob (site e.core) (group.slot_events (group_events g h)) s j
      → Moves e (group.in_group (asked_events s now (ask_told a)) ++ group_events g h) core
      → slice_get e.works s ≡ Some old → y ≡ asked_gate (ask_told a) z
      → EntryNext M h g (Step.ask g s now) (Answer.Build j.generation) e z
      (record e { core = core; works = slice_set e.works s (WorkValue.building j) }) y v
  does-grant {s = s} {now = now} a j told answers own moves was back =
      let k = slot_events g h in
      let newest : j.generation ≡ slots.newest k = own.generation ∙ ap slots.newest (group-of g h) in
      next-work b s refl (rw newest (ask-right s now job answers.0 (sym told ∙ answers.1))) was (rw told at moves)
      (elsewhere s (slots.Granted now) k) (λ r. refl)
      (λ c there.
      ap WorkValue.building
      (same-task own.group own.place (newest ∙ sym (newest-past s k))
      (own.members ∙ ap (λ k. slots.order_members (past_of s k)) (group-of g h)) (same_Some j.config c (sym own.config ∙ there)) own.permit)
      ∙ sym (ap (λ q. held_of (origin e.core) s c q Work.building) (past-same s (slots.Granted now) k)))
      (λ m. refl) (rw told at back) (unshared b (Step.ask g s now) (Answer.Build j.generation) refl refl)

  module _ {s : ℕ} {j : Task C} (has : Holds h g s e j Work.building) where
    build-told : (now : ℕ) (r : Option Refusal) → M.refusal j.members j.config ≡ r
        → right_answer M h (Step.build g s now) ≡ built_or_failed j.generation r
    build-told now r is =
        let members = members-past (granted (past g s h)) s (slot_events g h) in
        told-work b.is has
        (λ c w. of_job w (built_or_failed (granted (past g s h)) (M.refusal (members_of (granted (past g s h)) (slot_events g h)) c)))
        ∙ ap (built_or_failed (granted (past g s h)))
        (ap (λ ms. M.refusal ms has.config) (sym members ∙ sym (members-kept h g s).under_way) ∙ rw has.is at is)
        ∙ ap (λ x. built_or_failed x.generation r) (sym has.is)

    -- a build that is done, and held from then on
    pub does-build : (now : ℕ) (x : BuiltValue C) → slice_get e.works s ≡ Some (WorkValue.building j) → M.refusal j.members j.config ≡ None
        → x.task ≡ j → x.ended ≡ now
        → EntryNext M h g (Step.build g s now) (Answer.Built j.generation) e z
        (record e { works = slice_set e.works s (WorkValue.built x) }) z v
    does-build now x held none task_is ended_is =
        next-work b s refl (inl (sym (build-told now None none))) held (stays b.is) (λ r off. refl) (λ r. refl)
        (λ c there.
        ap2 (λ t n. WorkValue.built (record { task = t; ended = n }))
        (task_is ∙ has.is ∙ ap (λ d. last_job (origin e.core) s d (past g s h)) (same_Some has.config c (sym has.there ∙ there)))
        ended_is)
        (λ m. refl) refl (unshared b (Step.build g s now) (Answer.Built j.generation) refl refl)

    -- a build that failed: its permit comes back, and its snapshot is released
    module _ {now : ℕ} {core : GroupValue C} {y : GateValue} {u : RegistryValue WorldRule}
        (held : slice_get e.works s ≡ Some (WorkValue.building j))
        (moves : Moves e (group.At j.slot (slots.Failed now j.members) ∷ group_events g h) core) (back : y ≡ gate z.id false)
        (lets-go : Releases j.generation u)
      where
        let-go : (es : List registry.Event)
            → es ≡ registry_released e.core.view.id (extra_at g s h) (view_events g h) (registry_events e.registry h)
            → IsRegistryAfter key_gives (key_of g h) es u × (u.id ≡ e.core.registry)
        let-go es new =
            released s j.generation es u
            (ap (λ x. x.generation) has.is
            ∙ sym (under_way-number (granted (past g s h)) (extra (past g s h))
            (under_way M h g s Work.building (slots-fit M h b.run) has.work_is refl)))
            new lets-go

        -- refused, for its cause or for memory
        pub does-fall : (r : Refusal)
            → (M.refusal j.members j.config ≡ Some r) ⊎ ((M.refusal j.members j.config ≡ None) × (r ≡ Refusal.OutOfMemory))
            → EntryNext M h g (Step.build g s now) (Answer.BuildFailed j.generation r) e z
            (record e { core = core; works = slice_set e.works s WorkValue.nothing }) y u
        does-fall r cause =
            let right : Answers M h (Step.build g s now) (Answer.BuildFailed j.generation r) =
            elim cause [
              | inl q ↦ inl (sym (build-told now (Some r) q))
              | inr q ↦
                  inr (ap (Answer.BuildFailed j.generation) q.1
                  ∙ sym (ap (without_memory {C = C} (Step.build g s now)) (build-told now None q.0)))
            ] in
            next-work b s refl right held (rw has.is at moves) (elsewhere s _ (slot_events g h)) (λ i. refl) (λ c there. refl) (λ m. refl)
            back
            (let-go _ (shares M h (Step.build g s now) (Answer.BuildFailed j.generation r) (b.run, right) (made_of e) b.is.made_is))

        pub does-fail : EntryNext M h g (Step.failbuild g s now) (Answer.Failed j.generation) e z
            (record e { core = core; works = slice_set e.works s WorkValue.nothing }) y u
        does-fail =
            let right : Answers M h (Step.failbuild g s now) (Answer.Failed j.generation) =
            inl (sym (told-work b.is has (λ c w. of_job w (Answer.Failed (granted (past g s h))))
            ∙ ap (λ x. Answer.Failed x.generation) (sym has.is))) in
            next-work b s refl right held (rw has.is at moves) (elsewhere s _ (slot_events g h)) (λ i. refl) (λ c there. refl) (λ m. refl)
            back
            (let-go _ (shares M h (Step.failbuild g s now) (Answer.Failed j.generation) (b.run, right) (made_of e) b.is.made_is))

  -- what was built comes back, and is served or retired
  module _ {s : ℕ} {x : BuiltValue C} (has : Holds h g s e x.task (Work.built x.ended)) where
    built-told : (f : ℕ → Answer) → at_one (config g s h) (λ c. of_built (work g s h) (f (granted (past g s h)))) ≡ f x.task.generation
    built-told f =
        told-work b.is has (λ c w. of_built w (f (granted (past g s h)))) ∙ sym (ap (λ t. f t.generation) has.is)

    pub does-abandon : {core : GroupValue C} → slice_get e.works s ≡ Some (WorkValue.built x)
        → Moves e (group.At x.task.slot (slots.Abandoned x.task.members) ∷ group_events g h) core
        → EntryNext M h g (Step.abandon g s) (Answer.Abandoned x.task.generation) e z
        (record e { core = core; works = slice_set e.works s WorkValue.nothing }) z v
    does-abandon held moves =
        next-work b s refl (inl (sym (built-told Answer.Abandoned))) held (rw has.is at moves) (elsewhere s _ (slot_events g h))
        (λ i. refl)
        (λ c there. refl) (λ m. refl) refl (unshared b (Step.abandon g s) (Answer.Abandoned x.task.generation) refl refl)

    pub does-publish : (t : Publication) {core : GroupValue C} → slice_get e.works s ≡ Some (WorkValue.built x)
        → Moves e (group.in_group (publish_events x (Ok t)) ++ group_events g h) core
        → t ≡ publish_answer x.task.slot x.task.generation (group.slot_events (group_events g h))
        → EntryNext M h g (Step.publish g s) (told_as t) e z (record e { core = core; works = slice_set e.works s WorkValue.nothing }) z v
    does-publish t {core} held moves to =
        by-told t moves (inl (ap told_as (rw (has.is, group-of g h) at to) ∙ tells (is_served s (slot_events g h)) ∙ sym
        (built-told (λ n. cond (is_served s (slot_events g h)) (Answer.Published n) (Answer.Abandoned n)))))
      where
        tells : (b : Bool) → told_as (cond b (Publication.Published (granted (past g s h))) (Publication.Abandoned (granted (past g s h))))
            ≡ cond b (Answer.Published x.task.generation) (Answer.Abandoned x.task.generation)
        tells true = ap (λ t. Answer.Published t.generation) (sym has.is)
        tells false = ap (λ t. Answer.Abandoned t.generation) (sym has.is)

        by-told : (t : Publication) → Moves e (group.in_group (publish_events x (Ok t)) ++ group_events g h) core
            → Answers M h (Step.publish g s) (told_as t)
            → EntryNext M h g (Step.publish g s) (told_as t) e z
            (record e { core = core; works = slice_set e.works s WorkValue.nothing }) z v
        by-told (Publication.Published n) moves right =
            next-work b s refl right held (rw has.work_is (rw has.is at moves)) (elsewhere s _ (slot_events g h)) (λ i. refl)
            (λ c there. refl)
            (λ m. refl) refl (unshared b (Step.publish g s) (Answer.Published n) refl refl)
        by-told (Publication.Abandoned n) moves right =
            next-work b s refl right held (rw has.is at moves) (elsewhere s _ (slot_events g h)) (λ i. refl) (λ c there. refl) (λ m. refl)
            refl
            (unshared b (Step.publish g s) (Answer.Abandoned n) refl refl)

  -- a retired selector: taken out, destroyed and reported at once
  destroy-told : (s : ℕ) (r : Option Refusal) → taken_refusal (site e.core) s (group.slot_events (group_events g h)) ≡ r
      → right_answer M h (Step.destroy g s) ≡ unless_refused r Answer.Destroyed
  destroy-told s r is =
      reading-told b.is s destroy_refusal (λ q. unless_refused q Answer.Destroyed) _ refl
      ∙ by-place (nat_lt s (length (configs_of e.core.group))) _ is
    where
      by-place : (there : Bool) (q : Option Refusal) → cond there q (Some Refusal.NoSuch) ≡ r
          → at_one (cond there (Some q) None) (λ q. unless_refused q Answer.Destroyed) ≡ unless_refused r Answer.Destroyed
      by-place true q is = rw is refl
      by-place false q is = rw (← is) refl

  pub does-refuse-destruction : {s : ℕ} {r : Refusal} {core : GroupValue C} → Moves e (group_events g h) core
      → taken_refusal (site e.core) s (group.slot_events (group_events g h)) ≡ Some r
      → EntryNext M h g (Step.destroy g s) (Answer.Refused r) e z (with_core core e) z v
  does-refuse-destruction {s = s} {r = r} moves is = next-refused b refl (inl (sym (destroy-told s (Some r) is))) moves

  pub does-destroy : (s n : ℕ) {core : GroupValue C} {y : GateValue} {u : RegistryValue WorldRule}
      → Moves e (group.At s slots.Destroyed ∷ group.At s slots.TakenOut ∷ group_events g h) core
      → taken_refusal (site e.core) s (group.slot_events (group_events g h)) ≡ None
      → n ≡ generation_of (extra (past_of s (slots.At s slots.TakenOut ∷ group.slot_events (group_events g h)))) → y ≡ gate z.id false
      → Releases n u → EntryNext M h g (Step.destroy g s) Answer.Destroyed e z (with_core core e) y u
  does-destroy s n moves taken of back kept =
      let right : Answers M h (Step.destroy g s) Answer.Destroyed = inl (sym (destroy-told s None taken)) in
      next-core b refl right moves refl (λ i. refl) (λ m. refl) back
      (released s n _ _ (rw (past-same s slots.TakenOut (group.slot_events (group_events g h)), group-of g h) at of)
      (shares M h (Step.destroy g s) Answer.Destroyed (b.run, right) (made_of e) b.is.made_is) kept)

-- what was taken out is owed a report
pub owed-now : {C : Type 0} (made : group-made.Made C) (s : ℕ) (k : slots.History) → taken_refusal made s k ≡ None
    → is_owed made s (slots.At s slots.TakenOut ∷ k) ≡ true
owed-now made s k none = rw (past-same s slots.TakenOut k) (grind (arith, none))
