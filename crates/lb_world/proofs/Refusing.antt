-- Histories that give the same stay so, and the same answers are right after both; a refused step makes no difference to what is given.
use Rattle.std.proofs.Common.{◌≡◌, ◌+◌, ◌==◌, ◌&&◌, ◌||◌, ◌∙◌, ℕ, Bool, true, false, cond, List, [], ◌∷◌, ◌++◌, length, refl, sym, ap}
use Rattle.std.proofs.Common.{arith}
use Rattle.std.specs.Prelude.{Option, Some, None, slice_get, slice_set}
use Rattle.std.specs.Option.{option_map}
use Rattle.lb_select_base.specs.Backends.{Member, same_member}
use Rattle.lb_select_base.specs.declared.refusal.Refusal.{Refusal}
use Rattle.lb_health_core.specs.RegistryEvents as registry
use Rattle.lb_rebuild_core.specs.SlotsHistory as slots
use Rattle.lb_rebuild_core.specs.Laws.{number}
use Rattle.lb_rebuild_core.specs.GroupHistory as group
use Rattle.lb_world.specs.Steps.{Step}
use Rattle.lb_world.specs.Steps as step
use Rattle.lb_world.specs.declared.step.Listing.{Listing}
use Rattle.lb_world.specs.declared.answer.Answer.{Answer}
use Rattle.lb_world.specs.declared.answer.Answer.TheVariants as answer
use Rattle.lb_world.specs.History.{History, RegistryMade, Made, Work, is_at, members_in, group_in, slot_in, over, config_in, drew}
use Rattle.lb_world.specs.History.{registries, gates, made, made_at, config, registry_of, entries, group_at, works_at, worked, work, ended}
use Rattle.lb_world.specs.History.{slot_events, past, gate_in, is_grant, is_failure, is_destruction, is_out, load_of}
use Rattle.lb_world.specs.History.{count_on, settings_in, job_members, joined_step}
use Rattle.lb_world.specs.Shared.{is_live, configs_in, view_in, key_in, registry_made, registry_in, registry_at, let_go}
use Rattle.lb_world.specs.Shared.{extra_at, changed, registry_events, events_in, key_of}
use Rattle.lb_world.specs.GroupEvents.{cells_for, group_events, view_events, views_in}
use Rattle.lb_world.specs.Refused.{TellsAlike}
use Rattle.lb_world.proofs.Placing.{same-either}
use Rattle.lb_world.proofs.Own.{group-of}

pub ap2 {ℓ} : {A B : Type 0} {D : Type ℓ} (f : A → B → D) {a c : A} {b d : B} → a ≡ c → b ≡ d → f a b ≡ f c d
ap2 f {a = a} {d = d} e u = ap (f a) u ∙ ap (λ x. f x d) e

pub ap3 {ℓ} : {A B D : Type 0} {E : Type ℓ} (f : A → B → D → E) {a x : A} {b y : B} {c z : D} → a ≡ x → b ≡ y → c ≡ z → f a b c ≡ f x y z
ap3 f {a = a} {b = b} {z = z} e u v = ap (f a b) v ∙ ap2 (λ p q. f p q z) e u

pub none-more : (n : ℕ) → 0 + n ≡ n
none-more n = omega arith

out-kept : (b grant failure destruction out : Bool) → grant ≡ false → failure ≡ false → destruction ≡ false
    → cond b (cond grant true (cond (failure || destruction) false out)) out ≡ out
out-kept b true failure destruction out e f d = absurd (cc)
out-kept b false true destruction out e f d = absurd (cc)
out-kept b false false true out e f d = absurd (cc)
out-kept b false false false out e f d = same-either b out

module _ {C : Type 0} where
  -- A refused step adds nothing.
  registries-kept : (h : History C) (st : Step C) (r : Refusal) → registries ((st, answer.Refused r) ∷ h) ≡ registries h
  registries-kept h (step.registry rule healthy) r = refl
  registries-kept h st r = refl

  gates-kept : (h : History C) (st : Step C) (r : Refusal) → gates ((st, answer.Refused r) ∷ h) ≡ gates h
  gates-kept h step.gate r = refl
  gates-kept h st r = refl

  made-kept : (h : History C) (st : Step C) (r : Refusal) → made ((st, answer.Refused r) ∷ h) ≡ made h
  made-kept h (step.group e b cs) r = refl
  made-kept h st r = refl

  entries-kept : (h : History C) (st : Step C) (r : Refusal) → entries ((st, answer.Refused r) ∷ h) ≡ entries h
  entries-kept h (step.enter g s) r = refl
  entries-kept h st r = refl

  worked-kept : (st : Step C) (r : Refusal) (w : Work) → worked st (answer.Refused r) w ≡ w
  worked-kept (step.ask g s now) r w = refl
  worked-kept st r w = refl

  joined-kept : (h : History C) (e : group.History) (st : Step C) (r : Refusal) → joined_step cells_for h e st (answer.Refused r) ≡ e
  joined-kept h e (step.enable g (Some b)) r = refl
  joined-kept h e (step.disable g (Some b)) r = refl
  joined-kept h e st r = refl

  joins-kept : (h : History C) (st : Step C) (r : Refusal) (g : ℕ) → group_events g ((st, answer.Refused r) ∷ h) ≡ group_events g h
  joins-kept h st r g =
      ap (λ (es : group.History). cond (is_at g (group_at h st)) es (group_events g h)) (joined-kept h (group_events g h) st r)
      ∙ same-either (is_at g (group_at h st)) (group_events g h)

  changed-kept : (h now : History C) (st : Step C) (r : Refusal) (events : List registry.Event)
      → changed h now st (answer.Refused r) events ≡ events
  changed-kept h now (step.update g at ls) r events = refl
  changed-kept h now st r events = refl

  loads-kept : (h : History C) (st : Step C) (r : Refusal) (g : ℕ) (b : Member)
      → load_of g b ((st, answer.Refused r) ∷ h) ≡ load_of g b h
  loads-kept h (step.load i (Some c) load) r g b = refl
  loads-kept h st r g b = refl

  no-grant : (st : Step C) (r : Refusal) → is_grant st (answer.Refused r) ≡ false
  no-grant (step.ask g s now) r = refl
  no-grant st r = refl

  no-failure : (st : Step C) (r : Refusal) → is_failure st (answer.Refused r) ≡ false
  no-failure (step.build g s now) r = refl
  no-failure st r = refl

  no-destruction : (st : Step C) (r : Refusal) → is_destruction st (answer.Refused r) ≡ false
  no-destruction (step.destroy g s) r = refl
  no-destruction st r = refl

  count-kept : (p : Step C → Answer → Bool) (h : History C) (st : Step C) (r : Refusal) (a : ℕ) → p st (answer.Refused r) ≡ false
      → count_on p a ((st, answer.Refused r) ∷ h) ≡ count_on p a h
  count-kept p h st r a off =
      ap (λ (b : Bool). number (b && is_at a (gate_in h (group_at h st))) + count_on p a h) off ∙ none-more (count_on p a h)

  pub refused-alike : (h : History C) (st : Step C) (r : Refusal) → TellsAlike ((st, answer.Refused r) ∷ h) h
  refused-alike h st r =
      record {
        rest =
            record {
              registries_made = registries-kept h st r;
              gates_made = gates-kept h st r;
              groups_made = made-kept h st r;
              readers = entries-kept h st r;
              works =
                  λ g s.
                  ap (λ (w : Work). cond (works_at g s st) w (work g s h)) (worked-kept st r (work g s h))
                  ∙ same-either (works_at g s st) (work g s h);
              shared =
                  λ i.
                  ap (λ (es : List registry.Event). cond (is_at i (registry_at h st)) es (registry_events i h))
                  (changed-kept h ((st, answer.Refused r) ∷ h) st r (registry_events i h))
                  ∙ same-either (is_at i (registry_at h st)) (registry_events i h);
              outs =
                  λ a.
                  out-kept (is_at a (gate_in h (group_at h st))) (is_grant st (answer.Refused r)) (is_failure st (answer.Refused r))
                  (is_destruction st (answer.Refused r)) (is_out a h) (no-grant st r) (no-failure st r) (no-destruction st r);
              grants = λ a. count-kept is_grant h st r a (no-grant st r);
              failures = λ a. count-kept is_failure h st r a (no-failure st r);
              destructions = λ a. count-kept is_destruction h st r a (no-destruction st r);
              loads = λ g b. loads-kept h st r g b;
            };
        joined = λ g. joins-kept h st r g;
      }

  pub alike-sym : (h k : History C) → TellsAlike h k → TellsAlike k h
  alike-sym h k e =
      record {
        rest =
            record {
              registries_made = sym e.rest.registries_made;
              gates_made = sym e.rest.gates_made;
              groups_made = sym e.rest.groups_made;
              readers = sym e.rest.readers;
              works = λ g s. sym (e.rest.works g s);
              shared = λ r. sym (e.rest.shared r);
              outs = λ a. sym (e.rest.outs a);
              grants = λ a. sym (e.rest.grants a);
              failures = λ a. sym (e.rest.failures a);
              destructions = λ a. sym (e.rest.destructions a);
              loads = λ g b. sym (e.rest.loads g b);
            };
        joined = λ g. sym (e.joined g);
      }

  pub alike-then : (h k l : History C) → TellsAlike h k → TellsAlike k l → TellsAlike h l
  alike-then h k l e u =
      record {
        rest =
            record {
              registries_made = e.rest.registries_made ∙ u.rest.registries_made;
              gates_made = e.rest.gates_made ∙ u.rest.gates_made;
              groups_made = e.rest.groups_made ∙ u.rest.groups_made;
              readers = e.rest.readers ∙ u.rest.readers;
              works = λ g s. e.rest.works g s ∙ u.rest.works g s;
              shared = λ r. e.rest.shared r ∙ u.rest.shared r;
              outs = λ a. e.rest.outs a ∙ u.rest.outs a;
              grants = λ a. e.rest.grants a ∙ u.rest.grants a;
              failures = λ a. e.rest.failures a ∙ u.rest.failures a;
              destructions = λ a. e.rest.destructions a ∙ u.rest.destructions a;
              loads = λ g b. e.rest.loads g b ∙ u.rest.loads g b;
            };
        joined = λ g. e.joined g ∙ u.joined g;
      }

-- What a history tells of a group's registry and key, and of where a step is, by what it tells alike.
module _ {C : Type 0} (k h : History C) (e : TellsAlike k h) where
  -- the group's own events are among the joined ones
  pub groups-alike : (g : ℕ) → slot_events g k ≡ slot_events g h
  groups-alike g = sym (group-of g k) ∙ ap group.slot_events (e.joined g) ∙ group-of g h

  pub at-alike : (g : ℕ) → made_at g k ≡ made_at g h
  at-alike g = ap (λ (ms : List (Made C)). slice_get ms g) e.rest.groups_made

  -- so are those of its view
  pub views-alike : (g : ℕ) → view_events g k ≡ view_events g h
  views-alike g = ap2 views_in (at-alike g) (e.joined g)

  pub config-alike : (g s : ℕ) → config g s k ≡ config g s h
  config-alike g s = ap (config_in s) (at-alike g)

  pub registry-of-alike : (g : ℕ) → registry_of g k ≡ registry_of g h
  registry-of-alike g = ap (option_map (λ m. m.registry)) (at-alike g)

  made-registry : (o : Option ℕ) → registry_made o k ≡ registry_made o h
  made-registry None = refl
  made-registry (Some r) = ap (λ (rs : List RegistryMade). slice_get rs r) e.rest.registries_made

  pub key-alike : (g : ℕ) → key_of g k ≡ key_of g h
  key-alike g = ap key_in (made-registry (registry_of g k) ∙ ap (λ (o : Option ℕ). registry_made o h) (registry-of-alike g))

  events-in : (o : Option ℕ) → events_in o k ≡ events_in o h
  events-in None = refl
  events-in (Some r) = e.rest.shared r

  pub events-alike : (g : ℕ) → events_in (registry_of g k) k ≡ events_in (registry_of g h) h
  events-alike g = events-in (registry_of g k) ∙ ap (λ (o : Option ℕ). events_in o h) (registry-of-alike g)

  pub past-alike : (g s : ℕ) → past g s k ≡ past g s h
  past-alike g s = ap (slots.past_of s) (groups-alike g)

  extra-alike : (g s : ℕ) → extra_at g s k ≡ extra_at g s h
  extra-alike g s = ap (λ (p : slots.History). slots.generation_of (slots.extra p)) (past-alike g s)

  group-at-alike : (st : Step C) → group_at k st ≡ group_at h st
  group-at-alike (step.leave t) = ap (λ es. group_in (slice_get es t)) e.rest.readers
  group-at-alike st = refl

  registry-in-alike : (o : Option ℕ) → registry_in k o ≡ registry_in h o
  registry-in-alike None = refl
  registry-in-alike (Some g) = registry-of-alike g

  registry-at-alike : (st : Step C) → registry_at k st ≡ registry_at h st
  registry-at-alike (step.registry rule healthy) = ap (λ (rs : List RegistryMade). Some (length rs)) e.rest.registries_made
  registry-at-alike (step.group r a configs) = refl
  registry-at-alike (step.targets r) = refl
  registry-at-alike (step.verdict r c ok threshold) = refl
  registry-at-alike st = registry-in-alike (group_at k st) ∙ ap (registry_in h) (group-at-alike st)

  gate-in : (o : Option ℕ) → gate_in k o ≡ gate_in h o
  gate-in None = refl
  gate-in (Some g) = ap (option_map (λ m. m.gate)) (at-alike g)

  gate-alike : (st : Step C) → gate_in k (group_at k st) ≡ gate_in h (group_at h st)
  gate-alike st = gate-in (group_at k st) ∙ ap (gate_in h) (group-at-alike st)

  -- What a step does after both, by its answer.
  made-step : (st : Step C) (a : Answer) → made ((st, a) ∷ k) ≡ made ((st, a) ∷ h)
  made-step (step.group r b configs) (answer.Group n) =
      ap (λ (ms : List (Made C)). ms ++ record { registry = r; gate = b; view = over r ms + 1; configs = configs } ∷ []) e.rest.groups_made
  made-step st a = e.rest.groups_made

  registries-step : (st : Step C) (a : Answer) → registries ((st, a) ∷ k) ≡ registries ((st, a) ∷ h)
  registries-step (step.registry rule healthy) (answer.Registry n) =
      ap (λ (rs : List RegistryMade). rs ++ record { rule = rule; healthy = healthy } ∷ []) e.rest.registries_made
  registries-step st a = e.rest.registries_made

  gates-step : (st : Step C) (a : Answer) → gates ((st, a) ∷ k) ≡ gates ((st, a) ∷ h)
  gates-step step.gate (answer.Gate n) = ap (λ (i : ℕ). i + 1) e.rest.gates_made
  gates-step st a = e.rest.gates_made

  entries-step : (st : Step C) (a : Answer) → entries ((st, a) ∷ k) ≡ entries ((st, a) ∷ h)
  entries-step (step.enter g s) (answer.Reader t n) = ap (λ es. es ++ Some (record { group = g; slot = s; generation = n }) ∷ [])
      e.rest.readers
  entries-step (step.leave t) (answer.Left n) = ap (λ es. slice_set es t None) e.rest.readers
  entries-step st a = e.rest.readers

  works-step : (st : Step C) (a : Answer) (g s : ℕ) → work g s ((st, a) ∷ k) ≡ work g s ((st, a) ∷ h)
  works-step st a g s = ap (λ (w : Work). cond (works_at g s st) (worked st a w) w) (e.rest.works g s)

  cells-for-alike : (g : ℕ) (ls : List Listing) → cells_for g ls k ≡ cells_for g ls h
  cells-for-alike g ls =
      ap3 (λ (key : Member → Member) (v : ℕ) (es : List registry.Event). registry.shown_cells key v (members_in ls) es)
      (key-alike g) (ap view_in (at-alike g)) (events-alike g)

  joined-alike : (st : Step C) (a : Answer) (j : group.History) → joined_step cells_for k j st a ≡ joined_step cells_for h j st a
  joined-alike (step.update g now ls) (answer.Generation n) j =
      ap (λ cs. group.after_settings (settings_in ls) (group.Shown (members_in ls) cs now ∷ j)) (cells-for-alike g ls)
  joined-alike (step.publish g s) (answer.Published n) j =
      ap (λ (w : Work). group.At s (slots.Published (ended w) (job_members s j)) ∷ j) (e.rest.works g s)
  joined-alike (step.leave t) (answer.Left n) j = ap (λ es. group.At (slot_in (slice_get es t)) (slots.Left n) ∷ j) e.rest.readers
  joined-alike (step.select g s key limit words) (answer.Backend b t) j =
      ap (λ (o : Option C). drew o s t j) (config-alike g s)
  joined-alike (step.select g s key limit words) (answer.NoBackend t) j =
      ap (λ (o : Option C). drew o s t j) (config-alike g s)
  joined-alike (step.select g s key limit words) (answer.NotSelected t) j =
      ap (λ (o : Option C). drew o s t j) (config-alike g s)
  joined-alike st a j = refl

  joined-now : (st : Step C) (a : Answer) (g : ℕ) → group_events g ((st, a) ∷ k) ≡ group_events g ((st, a) ∷ h)
  joined-now st a g =
      ap3 (λ (o : Option ℕ) (v x : group.History). cond (is_at g o) v x) (group-at-alike st)
      (joined-alike st a (group_events g k) ∙ ap (λ (j : group.History). joined_step cells_for h j st a) (e.joined g)) (e.joined g)

  groups-step : (st : Step C) (a : Answer) (g : ℕ) → slot_events g ((st, a) ∷ k) ≡ slot_events g ((st, a) ∷ h)
  groups-step st a g = sym (group-of g ((st, a) ∷ k)) ∙ ap group.slot_events (joined-now st a g) ∙ group-of g ((st, a) ∷ h)

  let-go-alike : (st : Step C) (a : Answer) (g n m : ℕ) (x y : List registry.Event) → n ≡ m → x ≡ y
      → let_go g n ((st, a) ∷ k) x ≡ let_go g m ((st, a) ∷ h) y
  let-go-alike st a g n m x y same events =
      ap3 (λ (o : Option (Made C)) (es : slots.History) (p : ℕ × List registry.Event).
      cond (is_live p.0 (configs_in o) es) p.1 (registry.Released (view_in o) p.0 ∷ p.1))
      (ap (λ (ms : List (Made C)). slice_get ms g) (made-step st a)) (groups-step st a g)
      (ap2 (λ (i : ℕ) (v : List registry.Event). (i, v)) same events)

  changed-alike : (st : Step C) (a : Answer) (x : List registry.Event)
      → changed k ((st, a) ∷ k) st a x ≡ changed h ((st, a) ∷ h) st a x
  changed-alike (step.update g now ls) (answer.Generation n) x =
      let newest : slots.newest (slot_events g k) ≡ slots.newest (slot_events g h) = ap slots.newest (groups-alike g) in
      let-go-alike (step.update g now ls) (answer.Generation n) g _ _ _ _ newest
      (ap2 (λ (v i : ℕ). registry.after_show v (i + 1) (members_in ls) x) (ap view_in (at-alike g)) newest)
  changed-alike (step.build g s now) (answer.BuildFailed n r) x =
      let-go-alike (step.build g s now) (answer.BuildFailed n r) g _ _ x x (extra-alike g s) refl
  changed-alike (step.failbuild g s now) (answer.Failed n) x =
      let-go-alike (step.failbuild g s now) (answer.Failed n) g _ _ x x (extra-alike g s) refl
  changed-alike (step.destroy g s) answer.Destroyed x = let-go-alike (step.destroy g s) answer.Destroyed g _ _ x x (extra-alike g s) refl
  changed-alike (step.cancel g) answer.Cancelled x = ap (λ (o : Option (Made C)). registry.Marked (view_in o) ∷ x) (at-alike g)
  changed-alike st a x = refl

  shared-step : (st : Step C) (a : Answer) (r : ℕ) → registry_events r ((st, a) ∷ k) ≡ registry_events r ((st, a) ∷ h)
  shared-step st a r =
      ap3 (λ (o : Option ℕ) (v x : List registry.Event). cond (is_at r o) v x) (registry-at-alike st)
      (changed-alike st a (registry_events r k) ∙ ap (changed h ((st, a) ∷ h) st a) (e.rest.shared r)) (e.rest.shared r)

  outs-step : (st : Step C) (b : Answer) (a : ℕ) → is_out a ((st, b) ∷ k) ≡ is_out a ((st, b) ∷ h)
  outs-step st b a =
      ap2
      (λ (o : Option ℕ) (out : Bool).
      cond (is_at a o) (cond (is_grant st b) true (cond (is_failure st b || is_destruction st b) false out)) out)
      (gate-alike st) (e.rest.outs a)

  count-step : (p : Step C → Answer → Bool) (st : Step C) (b : Answer) (a : ℕ) → count_on p a k ≡ count_on p a h
      → count_on p a ((st, b) ∷ k) ≡ count_on p a ((st, b) ∷ h)
  count-step p st b a same = ap2 (λ (o : Option ℕ) (n : ℕ). number (p st b && is_at a o) + n) (gate-alike st) same

  loads-step : (st : Step C) (a : Answer) (g : ℕ) (b : Member) → load_of g b ((st, a) ∷ k) ≡ load_of g b ((st, a) ∷ h)
  loads-step (step.load i (Some c) load) answer.Done g b = ap (λ (l : ℕ). cond (i == g && same_member c b) load l) (e.rest.loads g b)
  loads-step st a g b = e.rest.loads g b

  -- one step more, of either
  pub alike-step : (st : Step C) (a : Answer) → TellsAlike ((st, a) ∷ k) ((st, a) ∷ h)
  alike-step st a =
      record {
        rest =
            record {
              registries_made = registries-step st a;
              gates_made = gates-step st a;
              groups_made = made-step st a;
              readers = entries-step st a;
              works = works-step st a;
              shared = shared-step st a;
              outs = outs-step st a;
              grants = λ i. count-step is_grant st a i (e.rest.grants i);
              failures = λ i. count-step is_failure st a i (e.rest.failures i);
              destructions = λ i. count-step is_destruction st a i (e.rest.destructions i);
              loads = loads-step st a;
            };
        joined = joined-now st a;
      }
