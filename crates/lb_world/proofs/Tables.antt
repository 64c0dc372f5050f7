-- What a step leaves of a world, table by table; then the steps at a registry, those that make a registry or a gate, and those
-- of readers. A world is in the state after each run that gives the same as its history.
use Rattle.lb_rebuild_core.specs.GroupCalls.{IsEntered, IsLeft, IsReadyFor}
use Rattle.lb_rebuild_core.specs.SlotsCalls.{Enters, enter_refusal}
use Rattle.lb_rebuild_core.specs.Values.{ReaderValue}
use Rattle.lb_world.proofs.Absent.{config-made}
use Rattle.lb_world.proofs.Causes.{number-left}
use Rattle.lb_world.proofs.Makings.{entered-there, gate-unmade, get_last, still-there}
use Rattle.lb_world.proofs.Refusing.{alike-sym, groups-alike}
use Rattle.lb_world.proofs.Runs.{reading}
use Rattle.lb_world.proofs.Unrefused.{run-unrefused, told-unrefused}
use Rattle.lb_world.specs.Answers.{enter_answer, leave_answer}
use Rattle.lb_world.specs.History.{Made, gate_in, group_in}
use Rattle.lb_world.specs.Refused.{TellsAlike}
use Rattle.lb_world.specs.Shared.{started}
use Rattle.lb_world.specs.declared.step.CellKey.{CellKey}
use Rattle.lb_health_core.specs.Registry.{IsGrowthRefusal, targets_after}
use Rattle.lb_health_core.specs.RegistryEvents.{IsCellKept, Observed, cell_health}
use Rattle.lb_health_core.specs.Verdicts.{agree}
use Rattle.lb_health_core.specs.declared.targets.Target.{Target}
use Rattle.lb_world.specs.Internal.Calls.{IsCounted}
use Rattle.lb_world.specs.Stands.{OnSite}
use Rattle.std.proofs.Common.{◌≢◌, get_or}
use Rattle.std.proofs.lemmas.Grind.{common_steps}
use Rattle.std.proofs.lemmas.List.{map-set}
use Rattle.std.proofs.lemmas.Option.{slice_get-map}
use Rattle.lb_rebuild_core.specs.GroupStates as stands
use Rattle.lb_rebuild_core.specs.GroupHistory as group
use Rattle.lb_rebuild_core.specs.SlotsHistory as slots
use Rattle.lb_world.proofs.Words.{◌∙◌, ◌≡◌, ◌&&◌, ◌∷◌, ◌<◌, ◌==◌, ◌≤◌, [], ◌+◌, ◌↔◌, ◌^◌, ◌⊎◌, ◌++◌, after, Answer, right_answer, Answers}
use Rattle.lb_world.proofs.Words.{ap, ap2, Applied, arith, at_one, at_slot, Before, Bool, cases_eq, cells_given, cond, cond_some, config}
use Rattle.lb_world.proofs.Words.{configs_of, entered_of, entries, EntryIs, EntryNext, EntryValue, eq-eqb, Err, Event, false}
use Rattle.lb_world.proofs.Words.{gates, GateValue, get-kept, get-pushed, group-of, group_at, slot_events, held_of, OpenReaderValue}
use Rattle.lb_world.proofs.Words.{History, inl}
use Rattle.lb_world.proofs.Words.{inr, is_at, is_out, IsOwnReader, IsRegistryAfter, IsRun, IsTrue, group_events, Judges, key_at}
use Rattle.lb_world.proofs.Words.{key_by, key_gives, key_in, key_of, length, length-map, length-set, length_push, List, load_of, lt-ltb}
use Rattle.lb_world.proofs.Words.{made, made_at, made_of, map, map-append, marks_start_none, Meaning, Member, nat_lt, ne_eqb}
use Rattle.lb_world.proofs.Words.{None, none-some, not, Ok, Option, option_map, origin, others-stay, past, past_of, permit_after}
use Rattle.lb_world.proofs.Words.{refl, Refusal, refused-alike, registries, registry_at, registry_events, RegistryMade, RegistryValue}
use Rattle.lb_world.proofs.Words.{Result, same_member, same_Some, served, set_found, site, slice_get, slice_get_past, slice_get_within}
use Rattle.lb_world.proofs.Words.{slice_set, Some, Stands, Step, subst, sym, there-at, true, unrefused, with_core}
use Rattle.lb_world.proofs.Words.{without_memory, work, worked, works_at, WorldRule, WorldValue, ℕ, at-place, each-push, each-set}
use Rattle.lb_world.proofs.Words.{get_other, get_set, set-same, there}
use Rattle.lb_world.proofs.Entries.{at-group, gate-here, key-here, next, registry-here, taken, config-here, Moves, next-core, next-refused}
use Rattle.lb_world.proofs.Entries.{reading-told, unshared, views-are}

beside : (g i : ℕ) (b : Bool) → ¬ (i ≡ g) → (g == i && b) ≡ false
beside g i b off = rw (ne_eqb g i (λ e. off (sym e))) refl

-- a registry that was there is there still, the same one
pub record IsThere (vs : List (RegistryValue WorldRule)) (r : ℕ) (u : RegistryValue WorldRule) : Type 0 where
  pub now : RegistryValue WorldRule
  pub there : slice_get vs r ≡ Some now
  pub one : now.id ≡ u.id

abbrev pub Remain : List (RegistryValue WorldRule) → List (RegistryValue WorldRule) → Type 0
Remain ws vs = (r : ℕ) (u : RegistryValue WorldRule) → slice_get ws r ≡ Some u → IsThere vs r u

pub remain-all : (ws : List (RegistryValue WorldRule)) → Remain ws ws
remain-all ws r u at = record { now = u; there = at; one = refl }

pub remain-set : (ws : List (RegistryValue WorldRule)) (r : ℕ) (u v : RegistryValue WorldRule) → slice_get ws r ≡ Some u → v.id ≡ u.id
    → Remain ws (slice_set ws r v)
remain-set ws r u v there one i x at =
    elim (cases_eq i r) [
      | inl p ↦
          record {
            now = v;
            there = ap (slice_get (slice_set ws r v)) p ∙ set_found ws r u v there;
            one = one ∙ ap (λ t. t.id) (same_Some u x (sym there ∙ ap (slice_get ws) (sym p) ∙ at));
          }
      | inr off ↦ record { now = x; there = get_other ws r i v off ∙ at; one = refl }
    ]

remain-push : (ws : List (RegistryValue WorldRule)) (v : RegistryValue WorldRule) → Remain ws (ws ++ v ∷ [])
remain-push ws v r u at = record { now = u; there = get-kept ws v u r at; one = refl }

module _ {C : Type 0} where
  -- an entry stays right where what it rests on is as before
  pub entry-moves : {h k : History C} {g : ℕ} {e : EntryValue C} → made_at g k ≡ Some (made_of e) → group_events g k ≡ group_events g h
      → slot_events g k ≡ slot_events g h → ((s : ℕ) → work g s k ≡ work g s h) → ((b : Member) → load_of g b k ≡ load_of g b h)
      → EntryIs h g e → EntryIs k g e
  entry-moves {e = e} m j p w l is =
      record {
        made_is = m;
        core_is = subst (λ es. stands.Stands (site e.core) es e.core) (sym j) is.core_is;
        works_in = is.works_in;
        works_are =
            λ s c x cs xs. is.works_are s c x cs xs ∙ ap2 (held_of (origin e.core) s c) (ap (past_of s) (sym p)) (sym (w s));
        loads_are = λ b. is.loads_are b ∙ sym (l b);
      }

  -- a step at a group leaves what is held and the loads of the others
  works-else : (h : History C) (st : Step C) (g i s : ℕ) → group_at h st ≡ Some g → ¬ (i ≡ g) → works_at i s st ≡ false
  works-else h (Step.ask x r now) g i s at off = beside x i (r == s) (λ p. off (p ∙ same_Some x g at))
  works-else h (Step.build x r now) g i s at off = beside x i (r == s) (λ p. off (p ∙ same_Some x g at))
  works-else h (Step.failbuild x r now) g i s at off = beside x i (r == s) (λ p. off (p ∙ same_Some x g at))
  works-else h (Step.publish x r) g i s at off = beside x i (r == s) (λ p. off (p ∙ same_Some x g at))
  works-else h (Step.abandon x r) g i s at off = beside x i (r == s) (λ p. off (p ∙ same_Some x g at))
  works-else h st g i s at off = refl

  loads-else : (h : History C) (st : Step C) (a : Answer) (g i : ℕ) (b : Member) → group_at h st ≡ Some g → ¬ (i ≡ g)
      → load_of i b ((st, a) ∷ h) ≡ load_of i b h
  loads-else h (Step.load x (Some c) l) Answer.Done g i b at off =
      ap (λ t. cond t l (load_of i b h)) (beside x i (same_member c b) (λ p. off (p ∙ same_Some x g at)))
  loads-else h st a g i b at off = refl

  entry-else : (h : History C) (st : Step C) (a : Answer) (g i : ℕ) (e : EntryValue C) → group_at h st ≡ Some g → ¬ (i ≡ g)
      → EntryIs h i e → EntryIs ((st, a) ∷ h) i e
  entry-else h st a g i e at off is =
      let stays = others-stay h st a in
      let away : is_at i (group_at h st) ≡ false = ap (is_at i) at ∙ ne_eqb g i (λ p. off (sym p)) in
      entry-moves (ap (λ ms. slice_get ms i) (at-group h st a g at).made_are ∙ is.made_is) (stays.joined i away)
      (sym (group-of i ((st, a) ∷ h)) ∙ ap group.slot_events (stays.joined i away) ∙ group-of i h)
      (λ s. ap (λ t. cond t (worked st a (work i s h)) (work i s h)) (works-else h st g i s at off))
      (λ b. loads-else h st a g i b at off) is

module _ {C : Type 0} {M : Meaning C} {w : WorldValue C} {h : History C} (s : Stands M w h) where
  pub entered-in : (t : ℕ) (x : Option (OpenReaderValue C)) → slice_get w.readers t ≡ Some x
      → slice_get (entries h) t ≡ Some (option_map entered_of x)
  entered-in t x there_ = ap (λ es. slice_get es t) (sym s.readers_are) ∙ slice_get-map (option_map entered_of) w.readers t
      ∙ ap (option_map (option_map entered_of)) there_

  -- the group of a reader is there
  pub group-there : (t : ℕ) (r : OpenReaderValue C) → slice_get w.readers t ≡ Some (Some r) → r.group < length w.groups
  group-there t r there_ =
      let c = entered-there M h s.run t (entered_of r) (entered-in t (Some r) there_) in
      let m = config-made r.reader.slot (made_at r.group h) c.0 c.1 in
      omega (arith, slice_get_within (made h) r.group m.0 m.1, s.groups_are)

  -- The tables of registries, gates and groups are others, after a history that tells the same of what was there: the registries, the
  -- gates and the groups that were there are there still, and a group that is new is what the history tells.
  pub tables-set : (k : History C) (vs : List (RegistryValue WorldRule)) (zs : List GateValue) (gs : List (EntryValue C)) → IsRun M k
      → length vs ≡ length (registries k) → Remain w.registries vs → length zs ≡ gates k → length gs ≡ length (made k)
      → entries k ≡ entries h
      → ((r : ℕ) (v : RegistryValue WorldRule) → slice_get vs r ≡ Some v → IsRegistryAfter key_gives (key_at r k) (registry_events r k) v)
      → ((x : ℕ) (z : GateValue) → slice_get zs x ≡ Some z → z.out ≡ is_out x k)
      → ((x : ℕ) (z : GateValue) → slice_get w.gates x ≡ Some z → slice_get zs x ≡ Some z)
      → ((g : ℕ) (m : Made C) → made_at g h ≡ Some m → made_at g k ≡ Some m)
      → ((g : ℕ) → group_events g k ≡ group_events g h) → ((g : ℕ) → slot_events g k ≡ slot_events g h)
      → ((g i : ℕ) → work g i k ≡ work g i h) → ((g : ℕ) (b : Member) → load_of g b k ≡ load_of g b h)
      → ((g : ℕ) (e : EntryValue C) → slice_get gs g ≡ Some e → (slice_get w.groups g ≡ Some e)
      ⊎ ((length w.groups ≤ g) × EntryIs k g e × OnSite (record w { registries = vs; gates = zs; groups = gs }) e))
      → Stands M (record w { registries = vs; gates = zs; groups = gs }) k
  tables-set k vs zs gs run rs remain zs_are gs_are es kept outs stay made_stay joins groups works loads there =
      record {
        run = run;
        registries_are = rs;
        gates_are = zs_are;
        groups_are = gs_are;
        readers_are = s.readers_are ∙ sym es;
        kept = kept;
        outs = outs;
        each = λ g e in_.
            elim (there g e in_) [
              | inl was ↦ let is = s.each g e was in entry-moves (made_stay g _ is.made_is) (joins g) (groups g) (works g) (loads g) is
              | inr new ↦ new.1
            ];
        on_site = λ g e in_.
            elim (there g e in_) [
              | inl was ↦
                  let on = s.on_site g e was in
                  let still = remain e.registry on.shared on.registry in
                  record {
                    view = on.view;
                    gate = stay e.gate on.view on.gate;
                    id = on.id;
                    shared = still.now;
                    registry = still.there;
                    one = still.one ∙ on.one;
                  }
              | inr new ↦ new.2
            ];
        own = λ t r held e in_.
            elim (there r.group e in_) [
              | inl was ↦ s.own t r held e was
              | inr new ↦ absurd (omega (arith, new.0, group-there t r held))
            ];
      }

  -- the registries alone are others
  registries-set : (k : History C) (vs : List (RegistryValue WorldRule)) → IsRun M k → length vs ≡ length (registries k)
      → Remain w.registries vs → gates k ≡ gates h → made k ≡ made h → entries k ≡ entries h
      → ((r : ℕ) (v : RegistryValue WorldRule) → slice_get vs r ≡ Some v → IsRegistryAfter key_gives (key_at r k) (registry_events r k) v)
      → ((g : ℕ) → group_events g k ≡ group_events g h) → ((g : ℕ) → slot_events g k ≡ slot_events g h)
      → ((g i : ℕ) → work g i k ≡ work g i h) → ((g : ℕ) (b : Member) → load_of g b k ≡ load_of g b h)
      → ((x : ℕ) → is_out x k ≡ is_out x h) → Stands M (record w { registries = vs }) k
  registries-set k vs run rs remain zs ms es kept joins groups works loads outs =
      tables-set k vs w.gates w.groups run rs remain (s.gates_are ∙ sym zs) (s.groups_are ∙ ap length (sym ms)) es kept
      (λ x z in_. s.outs x z in_ ∙ sym (outs x)) (λ x z in_. in_) (λ g m at. ap (λ xs. slice_get xs g) ms ∙ at) joins groups works loads
      (λ g e in_. inl in_)

  pub stands-alike : (k : History C) → TellsAlike h k → IsRun M k → Stands M w k
  stands-alike k e run =
      registries-set k w.registries run (s.registries_are ∙ ap length e.rest.registries_made) (remain-all w.registries)
      (sym e.rest.gates_made)
      (sym e.rest.groups_made) (sym e.rest.readers)
      (λ r v there.
      rw (← e.rest.shared r) (subst (λ rs. IsRegistryAfter key_gives (key_in (slice_get rs r)) (registry_events r h) v)
      e.rest.registries_made (s.kept r v there)))
      (λ g. sym (e.joined g)) (λ g. sym (groups-alike h k e g)) (λ g i. sym (e.rest.works g i)) (λ g b. sym (e.rest.loads g b))
      (λ x. sym (e.rest.outs x))

pub stands-unrefused : {C : Type 0} (M : Meaning C) (w : WorldValue C) (h : History C) → Stands M w h → Stands M w (unrefused h)
stands-unrefused M w h is = stands-alike is (unrefused h) (told-unrefused M h) (run-unrefused M h is.run)

pub empty : {C : Type 0} (M : Meaning C) → Stands M (record { registries = []; gates = []; groups = []; readers = [] }) []
empty M =
    record {
      run = tt;
      registries_are = refl;
      gates_are = refl;
      groups_are = refl;
      readers_are = refl;
      kept = λ r v at. absurd (none-some v at);
      outs = λ a z at. absurd (none-some z at);
      each = λ g e at. absurd (none-some e at);
      on_site = λ g e at. absurd (none-some e at);
      own = λ t r at e in_. absurd (none-some _ at);
    }

-- what a registry's calls tell, after each history that it may have
abbrev pub Tells : RegistryValue WorldRule → ((Member → Member) → List Event → Type 0) → Type 0
Tells u P = (key_of : Member → Member) (events : List Event) → IsRegistryAfter key_gives key_of events u → P key_of events

module _ {C : Type 0} {M : Meaning C} {w : WorldValue C} {h : History C} (s : Stands M w h) where
  -- a right refusal, of a world that stays as it is
  pub world-refused : {st : Step C} {r : Refusal} → Answers M h st (Answer.Refused r) → Stands M w ((st, Answer.Refused r) ∷ h)
  world-refused {st} {r} right =
      stands-alike s ((st, Answer.Refused r) ∷ h) (alike-sym ((st, Answer.Refused r) ∷ h) h (refused-alike h st r)) (s.run, right)

  -- a table that isn't so long
  pub no-registry : (r : ℕ) → length w.registries ≤ r → slice_get (registries h) r ≡ None
  no-registry r few = slice_get_past (registries h) r (omega (arith, s.registries_are, few))

  pub no-group : (g : ℕ) → length w.groups ≤ g → made_at g h ≡ None
  no-group g few = slice_get_past (made h) g (omega (arith, s.groups_are, few))

  -- the registry of a group is its own
  pub own-registry : (g : ℕ) (e : EntryValue C) (u : RegistryValue WorldRule) → slice_get w.groups g ≡ Some e
      → slice_get w.registries e.registry ≡ Some u → u.id ≡ e.core.registry
  own-registry g e u there registry-there =
      let on = s.on_site g e there in
      ap (λ t. t.id) (same_Some u on.shared (sym registry-there ∙ on.registry)) ∙ on.one

  -- a group with its gate and its registry
  pub before : (g : ℕ) (e : EntryValue C) (z : GateValue) (u : RegistryValue WorldRule) → slice_get w.groups g ≡ Some e
      → slice_get w.gates e.gate ≡ Some z → slice_get w.registries e.registry ≡ Some u → Before M h g e z u
  before g e z u there gate-there registry-there =
      let is = s.each g e there in
      record {
        run = s.run;
        is = is;
        out = s.outs e.gate z gate-there;
        kept = rw (key-here is) (s.kept e.registry u registry-there);
        own = own-registry g e u there registry-there;
      }

  -- the site of a group stays
  placed : (gs : List (EntryValue C)) (rs : List (Option (OpenReaderValue C))) (e x d : EntryValue C) (z y : GateValue)
      (u v : RegistryValue WorldRule) → slice_get w.gates e.gate ≡ Some z → y.id ≡ z.id → slice_get w.registries e.registry ≡ Some u
      → v.id ≡ u.id → d.registry ≡ x.registry → d.core.registry ≡ x.core.registry → d.gate ≡ x.gate
      → d.core.group.gate ≡ x.core.group.gate → OnSite w x
      → OnSite
      (record { registries = slice_set w.registries e.registry v; gates = slice_set w.gates e.gate y; groups = gs; readers = rs }) d
  placed gs rs e x d z y u v there same registry-there one r n a i on =
      let still = remain-set w.registries e.registry u v registry-there one x.registry on.shared on.registry in
      let at = ap (slice_get (slice_set w.registries e.registry v)) r ∙ still.there in
      elim (cases_eq d.gate e.gate) [
        | inl p ↦
            record {
              view = y;
              gate = ap (slice_get (slice_set w.gates e.gate y)) p ∙ set_found w.gates e.gate z y there;
              id = same ∙ ap (λ t. t.id) (same_Some z on.view (sym there ∙ ap (slice_get w.gates) (sym p ∙ a) ∙ on.gate)) ∙ on.id ∙
                  sym i;
              shared = still.now;
              registry = at;
              one = still.one ∙ on.one ∙ sym n;
            }
        | inr off ↦
            record {
              view = on.view;
              gate = get_other w.gates e.gate d.gate y off ∙ ap (slice_get w.gates) a ∙ on.gate;
              id = on.id ∙ sym i;
              shared = still.now;
              registry = at;
              one = still.one ∙ on.one ∙ sym n;
            }
      ]

  -- the readers of before stay in their groups
  pub own-kept : (g : ℕ) (e d : EntryValue C) → slice_get w.groups g ≡ Some e → d.core.group.id ≡ e.core.group.id
      → (t : ℕ) (r : OpenReaderValue C) → slice_get w.readers t ≡ Some (Some r) → (x : EntryValue C)
      → slice_get (slice_set w.groups g d) r.group ≡ Some x → IsOwnReader x.core r.reader
  own-kept g e d there same t r held x in_ =
      elim (get_set w.groups g r.group e d x there in_) [
        | inl p ↦
            s.own t r held e (ap (slice_get w.groups) p.0 ∙ there) ∙ sym (ap (λ y. y.core.group.id) p.1 ∙ same)
        | inr p ↦ s.own t r held x p.1
      ]

  -- a step at a group, with its gate and its registry, and with the readers as they are after it
  pub world-moves : (g : ℕ) (st : Step C) (a : Answer) (e d : EntryValue C) (z y : GateValue) (u v : RegistryValue WorldRule)
      (rs : List (Option (OpenReaderValue C))) → group_at h st ≡ Some g → map (option_map entered_of) rs ≡ entries ((st, a) ∷ h)
      → ((t : ℕ) (r : OpenReaderValue C) → slice_get rs t ≡ Some (Some r) → (x : EntryValue C)
      → slice_get (slice_set w.groups g d) r.group ≡ Some x → IsOwnReader x.core r.reader)
      → slice_get w.groups g ≡ Some e → slice_get w.gates e.gate ≡ Some z → slice_get w.registries e.registry ≡ Some u
      → EntryNext M h g st a e z d y v
      → Stands M
      (record {
        registries = slice_set w.registries e.registry v;
        gates = slice_set w.gates e.gate y;
        groups = slice_set w.groups g d;
        readers = rs;
      })
      ((st, a) ∷ h)
  world-moves g st a e d z y u v rs at reads owns there gate-there registry-there next =
      let is = s.each g e there in
      let now = at-group h st a g at in
      let same-id : y.id ≡ z.id = ap (λ x. x.id) next.out in
      let one : v.id ≡ u.id = next.own ∙ next.one ∙ sym (own-registry g e u there registry-there) in
      let gate-at : gate_in h (group_at h st) ≡ Some e.gate = ap (gate_in h) at ∙ gate-here is in
      let registry-at : registry_at h st ≡ Some e.registry = now.registry_is ∙ registry-here is in
      record {
        run = (s.run, next.right);
        registries_are = length-set w.registries e.registry v ∙ s.registries_are ∙ ap length (sym now.registries_are);
        gates_are = length-set w.gates e.gate y ∙ s.gates_are ∙ sym now.gates_are;
        groups_are = length-set w.groups g d ∙ s.groups_are ∙ ap length (sym now.made_are);
        readers_are = reads;
        kept = λ r x found_.
            subst (λ ms. IsRegistryAfter key_gives (key_in (slice_get ms r)) (registry_events r ((st, a) ∷ h)) x) (sym now.registries_are)
            (each-set {Q = λ (i : ℕ) (t : RegistryValue WorldRule). IsRegistryAfter key_gives (key_at i h)
            (registry_events i ((st, a) ∷ h)) t}
            w.registries e.registry u v registry-there (rw (key-here is) at next.kept)
            (λ i t off was.
            rw ((others-stay h st a).registries i (ap (is_at i) registry-at ∙ ne_eqb e.registry i (λ q. off (sym q)))) (s.kept i t was)) r
            x found_);
        outs =
            each-set w.gates e.gate z y gate-there (ap (λ t. t.out) next.out ∙ ap (permit_after st a) (s.outs e.gate z gate-there)
            ∙ sym (taken (permit_after st a (is_out e.gate h)) (is_out e.gate h) e.gate (gate_in h (group_at h st)) gate-at))
            (λ x q off was.
            s.outs x q was
            ∙ sym (ap (λ t. cond t (permit_after st a (is_out x h)) (is_out x h))
            (ap (is_at x) gate-at ∙ ne_eqb e.gate x (λ p. off (sym p)))));
        each = each-set w.groups g e d there next.is (λ i x off was. entry-else h st a g i x at off (s.each i x was));
        on_site =
            each-set w.groups g e d there
            (placed (slice_set w.groups g d) rs e e d z y u v gate-there same-id registry-there one next.registry_is next.one next.gate_is
            (ap (λ o. o.gate) next.origin_is) (s.on_site g e there))
            (λ i x off was.
            placed (slice_set w.groups g d) rs e x x z y u v gate-there same-id registry-there one refl refl refl refl (s.on_site i x was));
        own = owns;
      }

  -- a step at a group that leaves its gate and its registry
  pub group-moves : (g : ℕ) (st : Step C) (a : Answer) (e d : EntryValue C) (rs : List (Option (OpenReaderValue C)))
      → group_at h st ≡ Some g
      → map (option_map entered_of) rs ≡ entries ((st, a) ∷ h)
      → ((t : ℕ) (r : OpenReaderValue C) → slice_get rs t ≡ Some (Some r) → (x : EntryValue C)
      → slice_get (slice_set w.groups g d) r.group ≡ Some x → IsOwnReader x.core r.reader)
      → slice_get w.groups g ≡ Some e
      → ((z : GateValue) (u : RegistryValue WorldRule) → Before M h g e z u → EntryNext M h g st a e z d z u)
      → Stands M (record w { groups = slice_set w.groups g d; readers = rs }) ((st, a) ∷ h)
  group-moves g st a e d rs at reads owns there next =
      let on = s.on_site g e there in
      rw (set-same w.registries e.registry on.shared on.registry, set-same w.gates e.gate on.view on.gate)
      at (world-moves g st a e d on.view on.view on.shared on.shared rs at reads owns there on.gate on.registry
      (next on.view on.shared (before g e on.view on.shared there on.gate on.registry)))

  -- one registry is another after a history that tells the same of all else
  pub registry-set : (k : History C) (r : ℕ) (u v : RegistryValue WorldRule) → IsRun M k → registries k ≡ registries h → gates k ≡ gates h
      → made k ≡ made h → entries k ≡ entries h → ((i : ℕ) → (i ≡ r → ⊥) → registry_events i k ≡ registry_events i h)
      → ((g : ℕ) → group_events g k ≡ group_events g h) → ((g : ℕ) → slot_events g k ≡ slot_events g h)
      → ((g i : ℕ) → work g i k ≡ work g i h) → ((g : ℕ) (b : Member) → load_of g b k ≡ load_of g b h)
      → ((x : ℕ) → is_out x k ≡ is_out x h) → slice_get w.registries r ≡ Some u → v.id ≡ u.id
      → IsRegistryAfter key_gives (key_at r h) (registry_events r k) v → Stands M (record w { registries = slice_set w.registries r v }) k
  registry-set k r u v run rs zs ms es others joins groups works loads outs there one now =
      registries-set s k (slice_set w.registries r v) run (length-set w.registries r v ∙ s.registries_are ∙ ap length (sym rs))
      (remain-set w.registries r u v there one) zs ms es
      (λ i x found_.
      subst (λ ms. IsRegistryAfter key_gives (key_in (slice_get ms i)) (registry_events i k) x) (sym rs)
      (each-set {Q = λ (i : ℕ) (t : RegistryValue WorldRule). IsRegistryAfter key_gives (key_at i h) (registry_events i k) t}
      w.registries r u v there now (λ i t off was. rw (others i off) (s.kept i t was)) i x found_))
      joins groups works loads outs

  -- and one that was borrowed is in the state after the same history
  registry-lent : (r : ℕ) (u v : RegistryValue WorldRule) → slice_get w.registries r ≡ Some u → v.id ≡ u.id
      → IsRegistryAfter key_gives (key_at r h) (registry_events r h) v → Stands M (record w { registries = slice_set w.registries r v }) h
  registry-lent r u v there one now =
      registry-set h r u v s.run refl refl refl refl (λ i off. refl) (λ g. refl) (λ g. refl) (λ g i. refl) (λ g b. refl) (λ x. refl) there
      one now

-- a flip is answered where the health is another one
flip-told : (b new old : Bool) → (IsTrue b ↔ (new ≢ old)) → b ≡ not (agree old new)
flip-told true true true p = absurd (p.0 refl refl)
flip-told true false false p = absurd (p.0 refl refl)
flip-told false true false p = p.1 (λ e. absurd (cc))
flip-told false false true p = p.1 (λ e. absurd (cc))
flip-told b new old p = refl

-- what a refused call says, of the refusal itself
pub refused-so : {A : Type 0} {e f : Refusal} → (let r : Result A Refusal = Err e in r ≡ Err f) → e ≡ f
refused-so is = cc

pub growth-told : {A : Type 0} (e : Refusal) → IsGrowthRefusal {A = A} (Err e) → (e ≡ Refusal.OutOfMemory) ⊎ (e ≡ Refusal.NumbersExhausted)
growth-told e cause = elim cause [ inl is ↦ inl (cc) | inr is ↦ inr (cc) ]

-- marks that are applied start no cell, so a number is left
pub marks-fit : (key_of : Member → Member) (events : List Event) (u : RegistryValue WorldRule) → IsRegistryAfter key_gives key_of events u
    → cells_given key_of (Applied ∷ events) < 2 ^ 64
marks-fit key_of events u now = omega (arith, marks_start_none key_of events now.state.sets, now.state.fits)

module _ {C : Type 0} {M : Meaning C} {w : WorldValue C} {h : History C} (s : Stands M w h) where
  -- a right refusal, of a world whose registry was borrowed
  pub lent-refused : {st : Step C} {f : Refusal} (r : ℕ) {u v : RegistryValue WorldRule} → slice_get w.registries r ≡ Some u
      → v.id ≡ u.id → Answers M h st (Answer.Refused f) → Tells u (λ k es. IsRegistryAfter key_gives k es v)
      → Stands M (record w { registries = slice_set w.registries r v }) ((st, Answer.Refused f) ∷ h)
  lent-refused {st} {f} r {u} {v} there one right after =
      let refused = world-refused s {st = st} {r = f} right in registry-lent refused r u v there one (after _ _ (refused.kept r u there))

  -- what a registry was made with
  made-there : (r : ℕ) (u : RegistryValue WorldRule) → slice_get w.registries r ≡ Some u → (m : RegistryMade)
      × (slice_get (registries h) r ≡ Some m)
  made-there r u there = there-at (registries h) r (omega (arith, slice_get_within w.registries r u there, s.registries_are))

  -- one registry moves by a step that tells nothing of all else
  pub verdict-next : (r c threshold : ℕ) (ok b : Bool) (u v : RegistryValue WorldRule) → slice_get w.registries r ≡ Some u
      → v.id ≡ u.id → Tells u (λ k es. IsRegistryAfter key_gives k (Observed c (record { ok = ok; threshold = threshold }) ∷ es) v)
      → Tells u (λ k es.
      IsTrue b ↔ (cell_health k c (Observed c (record { ok = ok; threshold = threshold }) ∷ es) ≢ cell_health k c es))
      → Tells u (λ k es. IsCellKept k c es)
      → Stands M (record w { registries = slice_set w.registries r v }) ((Step.verdict r c ok threshold, Answer.Flipped b) ∷ h)
  verdict-next r c threshold ok b u v there one after flips kept =
      let m = (made-there r u there).1 in
      let now = rw m at (s.kept r u there) in
      let st : Step C = Step.verdict r c ok threshold in
      registry-set s ((st, Answer.Flipped b) ∷ h) r u v
      (s.run, rw m (inl (kept _ _ now, ap Answer.Flipped (flip-told b _ _ (flips _ _ now))))) refl refl refl refl
      (λ i off. (others-stay h st (Answer.Flipped b)).registries i (ne_eqb r i (λ q. off (sym q)))) (λ g. refl) (λ g. refl) (λ g i. refl)
      (λ g b. refl) (λ x. refl) there one (rw (eq-eqb r r refl) (after _ _ (s.kept r u there)))

  pub verdict-refused : (r c threshold : ℕ) (ok : Bool) (u v : RegistryValue WorldRule) → slice_get w.registries r ≡ Some u → v ≡ u
      → Tells u (λ k es. IsCellKept k c es → ⊥)
      → Stands M (record w { registries = slice_set w.registries r v }) ((Step.verdict r c ok threshold, Answer.Refused Refusal.NoSuch) ∷ h)
  verdict-refused r c threshold ok u v there same off =
      let m = (made-there r u there).1 in
      lent-refused r there (ap (λ t. t.id) same) (rw m (inr (rw m at (off _ _ (s.kept r u there)), refl))) (λ k es now. rw same now)

  targets-told : (r : ℕ) (u : RegistryValue WorldRule) → slice_get w.registries r ≡ Some u
      → right_answer M h (Step.targets r) ≡ Answer.Targets (targets_after (key_at r h) (Applied ∷ registry_events r h))
  targets-told r u there = let m = (made-there r u there).1 in rw m refl

  pub targets-next : (r : ℕ) (ts : List Target) (u v : RegistryValue WorldRule) → slice_get w.registries r ≡ Some u → v.id ≡ u.id
      → Tells u (λ k es. IsRegistryAfter key_gives k (Applied ∷ es) v) → Tells u (λ k es. ts ≡ targets_after k (Applied ∷ es))
      → Stands M (record w { registries = slice_set w.registries r v }) ((Step.targets r, Answer.Targets ts) ∷ h)
  targets-next r ts u v there one after told =
      let now = s.kept r u there in
      let st : Step C = Step.targets r in
      registry-set s ((st, Answer.Targets ts) ∷ h) r u v (s.run, inl (ap Answer.Targets (told _ _ now) ∙ sym (targets-told r u there))) refl
      refl refl refl (λ i off. (others-stay h st (Answer.Targets ts)).registries i (ne_eqb r i (λ q. off (sym q)))) (λ g. refl) (λ g. refl)
      (λ g i. refl) (λ g b. refl) (λ x. refl) there one (rw (eq-eqb r r refl) (after _ _ now))

  -- a refusal other than for the want of a number is for memory
  pub targets-refused : (r : ℕ) (e : Refusal) (u v : RegistryValue WorldRule) → slice_get w.registries r ≡ Some u → v.id ≡ u.id
      → Tells u (λ k es. IsRegistryAfter key_gives k es v) → (e ≡ Refusal.OutOfMemory) ⊎ (e ≡ Refusal.NumbersExhausted)
      → Tells u (λ k es. e ≡ Refusal.NumbersExhausted → 2 ^ 64 ≤ cells_given k (Applied ∷ es))
      → Stands M (record w { registries = slice_set w.registries r v }) ((Step.targets r, Answer.Refused e) ∷ h)
  targets-refused r e u v there one after cause many =
      let now = s.kept r u there in
      let memory : e ≡ Refusal.OutOfMemory =
      elim cause [ inl is ↦ is | inr is ↦ absurd (omega (arith, many _ _ now is, marks-fit _ _ u now)) ] in
      lent-refused r there one (rw memory (inr (sym (ap (without_memory {C = C} (Step.targets r)) (targets-told r u there))))) after

  pub registry-made : (rule : CellKey) (healthy : Bool) (n : ℕ) (v : RegistryValue WorldRule) → n ≡ length w.registries
      → IsRegistryAfter key_gives (key_by rule) (started healthy) v
      → Stands M (record w { registries = w.registries ++ v ∷ [] }) ((Step.registry rule healthy, Answer.Registry n) ∷ h)
  registry-made rule healthy n v number new =
      registries-set s ((Step.registry rule healthy, Answer.Registry n) ∷ h) (w.registries ++ v ∷ [])
      (s.run, inl (ap Answer.Registry (number ∙ s.registries_are)))
      (length_push w.registries v ∙ ap (λ k. k + 1) s.registries_are ∙ sym (length_push (registries h) _))
      (remain-push w.registries v) refl refl refl
      (each-push w.registries v (rw (s.registries_are, eq-eqb (length (registries h)) (length (registries h)) refl, get_last) new)
      (λ i x low was.
      let m = there-at (registries h) i (omega (arith, low, s.registries_are)) in
      rw (ne_eqb (length (registries h)) i (λ e. omega (arith, e, low, s.registries_are)), get-kept (registries h) _ m.0 i m.1)
      (rw m.1 at (s.kept i x was))))
      (λ g. refl) (λ g. refl) (λ g i. refl) (λ g b. refl) (λ x. refl)

  pub gate-made : (n : ℕ) (z : GateValue) → n ≡ length w.gates → z.out ≡ false
      → Stands M (record w { gates = w.gates ++ z ∷ [] }) ((Step.gate, Answer.Gate n) ∷ h)
  gate-made n z number free =
      tables-set s ((Step.gate, Answer.Gate n) ∷ h) w.registries (w.gates ++ z ∷ []) w.groups (
        s.run,
        inl (ap Answer.Gate (number ∙ s.gates_are)),
      )
      s.registries_are (remain-all w.registries) (length_push w.gates z ∙ ap (λ k. k + 1) s.gates_are) s.groups_are refl s.kept
      (each-push w.gates z (free ∙ sym (ap (λ i. is_out i h) s.gates_are ∙ gate-unmade M h s.run)) (λ x y low was. s.outs x y was))
      (λ x y was. get-kept w.gates z y x was) (λ g m at. at) (λ g. refl) (λ g. refl) (λ g i. refl) (λ g b. refl) (λ g e in_. inl in_)

module _ {C : Type 0} {M : Meaning C} {w : WorldValue C} {h : History C} (s : Stands M w h) where
  entries-count : length (entries h) ≡ length w.readers
  entries-count = ap length (sym s.readers_are) ∙ length-map w.readers (option_map entered_of)

  pub entered-past : (t : ℕ) → length w.readers ≤ t → slice_get (entries h) t ≡ None
  entered-past t few = slice_get_past (entries h) t (omega (arith, few, entries-count))

  module _ (g : ℕ) (e : EntryValue C) (there_ : slice_get w.groups g ≡ Some e) (slot : ℕ) (r : Option ℕ)
      (told : stands.After e.core (λ made es. r ≡ at_slot made slot
      (slots.readers (served (past_of slot (group.slot_events es))) (past_of slot (group.slot_events es)))))
    where
      to : r ≡ at_slot (site e.core) slot
          (slots.readers (served (past_of slot (group.slot_events (group_events g h))))
          (past_of slot (group.slot_events (group_events g h))))
      to = told (site e.core) (group_events g h) (s.each g e there_).core_is

      -- what is answered, by the number of readers that was read
      enter-told : right_answer M h (Step.enter g slot) ≡ at_one r (λ n. enter_answer n (length w.readers) (served (past g slot h)))
      enter-told =
          ap (λ m. at_one (config g slot h)
          (λ c. enter_answer (slots.readers (served (past g slot h)) (past g slot h)) m (served (past g slot h)))) entries-count
          ∙ reading-told (s.each g e there_) slot (λ p. slots.readers (served p) p)
          (λ n. enter_answer n (length w.readers) (served (past g slot h))) r to

      -- a refusal of a world whose group was borrowed and stays as it was
      abbrev pub Refuses : Refusal → Type 0
      Refuses f = Stands M (record w { groups = slice_set w.groups g e }) ((Step.enter g slot, Answer.Refused f) ∷ h)

      enter-refused : (f : Refusal) → Answers M h (Step.enter g slot) (Answer.Refused f) → Refuses f
      enter-refused f right = rw (set-same w.groups g e there_) (world-refused s right)

      pub enter-absent : r ≡ None → Refuses Refusal.NoSuch
      enter-absent none = enter-refused Refusal.NoSuch (inl (sym (enter-told ∙ rw none refl)))

      -- no number is left for a reader
      pub enter-full : (x : ℕ) → r ≡ Some x → (length w.readers ≡ 18446744073709551615) ⊎ (x ≡ 18446744073709551615)
          → Refuses Refusal.NumbersExhausted
      enter-full x some many =
          enter-refused Refusal.NumbersExhausted
          (inl (sym (enter-told ∙ rw some (grind (arith, common_steps, many)))))

      module _ (x : ℕ) (some : r ≡ Some x) (few : ¬ (length w.readers ≡ 18446744073709551615)) (left : ¬ (x ≡ 18446744073709551615)) where
        enters-as : right_answer M h (Step.enter g slot) ≡ Answer.Reader (length w.readers) (served (past g slot h))
        enters-as = enter-told ∙ rw (some, ne_eqb x 18446744073709551615 left, ne_eqb (length w.readers) 18446744073709551615 few) refl

        memory-right : Answers M h (Step.enter g slot) (Answer.Refused Refusal.OutOfMemory)
        memory-right = inr (sym (ap (without_memory {C = C} (Step.enter g slot)) enters-as))

        pub enter-memory : Refuses Refusal.OutOfMemory
        enter-memory = enter-refused Refusal.OutOfMemory memory-right

        -- a reader enters, with the group and the list of readers that the calls left
        pub entered-now : (t : ℕ) (d : EntryValue C) (rs : List (Option (OpenReaderValue C))) (q : ReaderValue C) → d ≡ with_core d.core e
            → rs ≡ w.readers ++ Some (record { group = g; reader = q }) ∷ [] → t ≡ length w.readers → IsEntered e.core slot (Ok q) d.core
            → Stands M (record w { groups = slice_set w.groups g d; readers = rs }) ((Step.enter g slot, Answer.Reader t q.generation) ∷ h)
        entered-now t d rs q rest grown number entered =
            let st : Step C = Step.enter g slot in
            let a = Answer.Reader t q.generation in
            let before = (s.each g e there_).core_is in
            let moves : Moves e (group.At slot slots.Entered ∷ group_events g h) d.core = (entered.site, entered.stands _ _ before) in
            let answers : Enters (site e.core) (group.slot_events (group_events g h)) slot (Ok q) = entered.answers _ _ before in
            let own : IsOwnReader d.core q = entered.own in
            let is : q.generation ≡ served (past g slot h) = answers.2 ∙ ap (λ p. served (past_of slot p)) (group-of g h)
            in
            let right : Answers M h st a = inl (ap2 Answer.Reader number is ∙ sym enters-as) in
            group-moves s g st a e d rs refl
            (ap (map (option_map entered_of)) grown ∙ map-append (option_map entered_of) w.readers
            (Some (record { group = g; reader = q }) ∷ [])
            ∙ ap2 (λ es i. es ++ Some (record { group = g; slot = i; generation = q.generation }) ∷ [])
            s.readers_are answers.1)
            (λ i y held z in_.
            elim (get-pushed w.readers (Some (record { group = g; reader = q })) (Some y) i (rw grown at held)) [
              | inl p ↦
                  let mine : y ≡ record { group = g; reader = q } = same_Some _ _ p.1 in
                  let here_ : slice_get (slice_set w.groups g d) g ≡ Some z =
                  ap (λ v. slice_get (slice_set w.groups g d) v.group) (sym mine) ∙ in_ in
                  ap (λ v. v.reader.group) mine ∙ own
                  ∙ ap (λ v. v.core.group.id) (same_Some d z (sym (set_found w.groups g e d there_) ∙ here_))
              | inr p ↦ own-kept s g e d there_ moves.0.group.id i y p.1 z in_
            ])
            there_
            (λ z u b.
            subst (λ y. EntryNext M h g st a e z y z u) (sym rest)
            (next-core b refl right moves refl (λ i. refl) (λ m. refl) refl (unshared b st a refl refl)))

        -- the core refused it for memory
        pub refused-now : (f : Refusal) (d : EntryValue C) (rs : List (Option (OpenReaderValue C))) → d ≡ with_core d.core e
            → rs ≡ w.readers → IsEntered e.core slot (Err f) d.core
            → Stands M (record w { groups = slice_set w.groups g d; readers = rs }) ((Step.enter g slot, Answer.Refused f) ∷ h)
        refused-now f d rs rest kept entered =
            let st : Step C = Step.enter g slot in
            let before = (s.each g e there_).core_is in
            let moves : Moves e (group_events g h) d.core = (entered.site, entered.stands _ _ before) in
            let refused : Enters (site e.core) (group.slot_events (group_events g h)) slot (Err f) = entered.answers _ _ before in
            let within = cond_some (nat_lt slot (length (configs_of e.core.group))) _ x (sym to ∙ some) in
            let none : enter_refusal (site e.core) slot (group.slot_events (group_events g h)) ≡ None =
            rw (within.0, ne_eqb _ 18446744073709551615 (λ is. left (sym within.1 ∙ is))) refl in
            let memory : f ≡ Refusal.OutOfMemory = elim refused [ inl is ↦ absurd (none-some f (sym none ∙ is)) | inr p ↦ p.1 ] in
            let right : Answers M h st (Answer.Refused f) = rw memory memory-right in
            group-moves s g st (Answer.Refused f) e d rs refl (ap (map (option_map entered_of)) kept ∙ s.readers_are)
            (λ i y held z in_. own-kept s g e d there_ moves.0.group.id i y (rw kept at held) z in_) there_
            (λ z u b.
            subst (λ y. EntryNext M h g st (Answer.Refused f) e z y z u) (sym rest)
            (next-refused b refl right moves))

  -- nobody leaves
  pub leave-nowhere : (t : ℕ) → length w.readers ≤ t → Stands M w ((Step.leave t, Answer.Refused Refusal.NoSuchReader) ∷ h)
  leave-nowhere t few = world-refused s (inl (sym (ap leave_answer (entered-past t few))))

  pub leave-gone : (t : ℕ) → slice_get w.readers t ≡ Some None
      → Stands M (record w { readers = slice_set w.readers t None }) ((Step.leave t, Answer.Refused Refusal.NoSuchReader) ∷ h)
  leave-gone t there_ =
      rw (set-same w.readers t None there_)
      (world-refused s (inl (sym (ap leave_answer (entered-in s t None there_)))))

  -- the entry of its group, as it is read
  pub entry-of : (t : ℕ) (r : OpenReaderValue C) {k : ℕ} {e : EntryValue C} → slice_get w.readers t ≡ Some (Some r) → k ≡ r.group
      → e ≡ get_or w.groups k e → slice_get w.groups r.group ≡ Some e
  entry-of t r {k} {e} there_ is read = rw is at (at-place w.groups k e (omega (arith, is, group-there s t r there_)) read)

  pub counted : (t : ℕ) (r : OpenReaderValue C) (e : EntryValue C) → slice_get w.readers t ≡ Some (Some r)
      → slice_get w.groups r.group ≡ Some e
      → IsCounted e.core r.reader.slot r.reader.generation
  counted t r e there_ in_ =
      let is = s.each r.group e in_ in
      let at = entered-in s t (Some r) there_ in
      let c = entered-there M h s.run t (entered_of r) at in
      let config-is : slice_get (configs_of e.core.group) r.reader.slot ≡ Some c.0 = sym (config-here is r.reader.slot) ∙ c.1 in
      record {
        made = site e.core;
        events = group_events r.group h;
        stands = is.core_is;
        read =
            ap2 ◌&&◌ (lt-ltb r.reader.slot (length (configs_of e.core.group))
            (slice_get_within (configs_of e.core.group) r.reader.slot c.0 config-is))
            (lt-ltb 0 _ (rw (← group-of r.group h) at (reading M h s.run t r.reader.generation (entered_of r) at refl)));
      }

  -- a reader leaves
  pub left-now : (t : ℕ) (r : OpenReaderValue C) (e d : EntryValue C) → slice_get w.readers t ≡ Some (Some r)
      → slice_get w.groups r.group ≡ Some e → d ≡ with_core d.core e → IsLeft e.core r.reader (Ok tt) d.core
      → Stands M (record w { groups = slice_set w.groups r.group d; readers = slice_set w.readers t None })
      ((Step.leave t, Answer.Left r.reader.generation) ∷ h)
  left-now t r e d there_ in_ rest left =
      let at = entered-in s t (Some r) there_ in
      let moves : Moves e (group.At r.reader.slot (slots.Left r.reader.generation) ∷ group_events r.group h) d.core =
      (left.site, left.stands _ _ (s.each r.group e in_).core_is) in
      let st : Step C = Step.leave t in
      let a = Answer.Left r.reader.generation in
      let here_ : group_at h st ≡ Some r.group = ap group_in at in
      group-moves s r.group st a e d _ here_
      (map-set (option_map entered_of) w.readers t None ∙ ap (λ es. slice_set es t None) s.readers_are)
      (λ i y held z in_now. own-kept s r.group e d in_ moves.0.group.id i y (still-there w.readers t i y held) z in_now) in_
      (λ z u b.
      subst (λ y. EntryNext M h r.group st a e z y z u) (sym rest)
      (next-core b here_ (inl (sym (ap leave_answer at))) (rw at moves) refl (λ i. refl) (λ m. refl) refl (unshared b st a here_ refl)))

  -- nobody is asked
  pub ready-none : (t : ℕ) (b : Member) → (slice_get (entries h) t ≡ None) ⊎ (slice_get (entries h) t ≡ Some None)
      → Stands M w ((Step.ready t (Some b), Answer.Refused Refusal.NoSuchReader) ∷ h)
  ready-none t b none =
      world-refused s {st = Step.ready t (Some b)} {r = Refusal.NoSuchReader} (elim none [ inl is ↦ rw is refl | inr is ↦ rw is refl ])

  -- readiness in the generation that a reader reads
  pub ready-next : (t : ℕ) (b : Member) (is : Bool) (r : OpenReaderValue C) (e : EntryValue C) (u : RegistryValue WorldRule)
      → slice_get w.readers t ≡ Some (Some r) → slice_get w.groups r.group ≡ Some e → slice_get w.registries e.registry ≡ Some u
      → IsReadyFor key_gives e.core u r.reader b is
      → Stands M w ((Step.ready t (Some b), Answer.Ready is) ∷ h)
  ready-next t b is r e u there_ in_ registry-there told =
      let own = s.each r.group e in_ in
      let judged : Judges h r.group r.reader.generation b is =
      rw (key-here own, registry-here own, ← views-are own)
      (told (key_at e.registry h) (registry_events e.registry h) (s.kept e.registry u registry-there) _ _ own.core_is) in
      rw (set-same w.registries e.registry u registry-there)
      at (registry-set s ((Step.ready t (Some b), Answer.Ready is) ∷ h) e.registry u u
      (s.run, rw (entered-in s t (Some r) there_) (is, refl, judged)) refl refl refl refl (λ i off. refl) (λ g. refl) (λ g. refl)
      (λ g i. refl)
      (λ g b. refl) (λ x. refl) registry-there refl (s.kept e.registry u registry-there))
