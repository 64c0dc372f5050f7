-- The entry that is new joins the groups, over its registry and its gate; a refusal is for the least cause.
use Rattle.lb_rebuild_core.proofs.SlotsSteps.{configs-after}
use Rattle.lb_world.proofs.Makings.{group-absent, group-made, group-refused, starts}
use Rattle.lb_world.specs.Internal.Calls.{IsNewEntry, making_cause, or_memory}
use Rattle.lb_world.specs.Views.{nothing}
use Rattle.std.proofs.Common.{get_or}
use Rattle.std.proofs.lemmas.List.{length-replicate}
use Rattle.lb_health_core.specs.RegistryEvents as registry
use Rattle.lb_world.proofs.Words.{◌&&◌, ◌++◌, ◌+◌, ◌<◌, ◌∙◌, ◌∷◌, ◌≡◌, [], after, Answer, ap, arith, at-place, Bool}
use Rattle.lb_world.proofs.Words.{configs_of, each-push, each-set, earlier, EntryIs, EntryValue, eq-eqb, false, GateId, gates}
use Rattle.lb_world.proofs.Words.{GateValue, get-kept, get_replicate, held_of, History, in_tables, inl, inr, IsRegistryAfter, IsRun}
use Rattle.lb_world.proofs.Words.{key_gives, least, length, length-set, length_push, List, made, map, Meaning}
use Rattle.lb_world.proofs.Words.{and_parts, ltb-true, nat_lt, ne_eqb, None, origin, past, refl, Refusal, registries}
use Rattle.lb_world.proofs.Words.{registry_events}
use Rattle.lb_world.proofs.Words.{RegistryValue, set_found, slice_get, slice_set, Some, Stands, Step, sym, true, WorldRule, WorldValue, ℕ}
use Rattle.lb_world.proofs.Tables.{lent-refused, remain-set, tables-set, Tells, world-refused}
use Rattle.lb_world.proofs.world.Tables.group.Goals as goal

-- the entry of a new group
entry-made : {C : Type 0} (M : Meaning C) (h : History C) (r a : ℕ) (id : GateId) (cs : List C) (n : ℕ) (e : EntryValue C) → IsRun M h
    → r < length (registries h) → IsNewEntry r a id cs (registry.registered_after (registry_events r h) + 1) e
    → EntryIs ((Step.group r a cs, Answer.Group n) ∷ h) (length (made h)) e
entry-made M h r a id cs n e run within new =
    let first = starts h r a cs n M run within in
    let configs : cs ≡ configs_of e.core.group = sym (ap (λ w. configs_of w) new.core_is.group.shows ∙ configs-after id 0 cs []) in
    record {
      made_is = first.made_is ∙ (λ i. Some (record {
        registry = sym new.registry_is i;
        gate = sym new.gate_is i;
        view = sym new.view_is i;
        configs = configs i;
      }));
      core_is = rw (← first.joins, ← new.id_is, configs) at new.core_is;
      works_in = ap length new.works_are ∙ length-replicate (length cs) nothing ∙ ap length configs;
      works_are = λ s c k at in_.
          get_replicate (length cs) nothing s k (ap (λ xs. slice_get xs s) (sym new.works_are) ∙ in_)
          ∙ sym (ap (held_of (origin e.core) s c (past (length (made h)) s h)) (first.works s));
      loads_are = λ b. new.loads_are b ∙ sym (first.loads b);
    }

module _ {C : Type 0} {M : Meaning C} {w : WorldValue C} {h : History C} (s : Stands M w h) (r a : ℕ) (cs : List C) where
  abbrev st : Step C
  st = Step.group r a cs

  -- whether the two are there, as the history tells it
  there-as : (b : Bool) → in_tables w r a ≡ b → (nat_lt r (length (registries h)) && nat_lt a (gates h)) ≡ b
  there-as b is = rw (← s.registries_are, ← s.gates_are) is

  absent : in_tables w r a ≡ false → (e : Refusal) → Some e ≡ earlier (Some Refusal.NoSuch) (least (map (M.refusal []) cs))
      → Stands M w ((st, Answer.Refused e) ∷ h)
  absent off e is = world-refused s {st = st} (group-absent M h r a cs (there-as false off) e is)

  -- both are there, and the registry was read
  module _ {u : RegistryValue WorldRule} (on : in_tables w r a ≡ true) (read : u ≡ get_or w.registries r u) where
    sites : (r < length w.registries) × (a < length w.gates)
    sites =
        let parts = and_parts (nat_lt r (length w.registries)) (nat_lt a (length w.gates)) on in
        (ltb-true r (length w.registries) parts.0, ltb-true a (length w.gates) parts.1)

    in_ : slice_get w.registries r ≡ Some u
    in_ = at-place w.registries r u sites.0 read

    refused : (e : Refusal) (v : RegistryValue WorldRule)
        → Tells u (λ k es. e ≡ or_memory (making_cause (least (map (M.refusal []) cs)) (registry.registered_after es)))
        → Tells u (λ k es. IsRegistryAfter key_gives k es v) → v.id ≡ u.id
        → Stands M (record w { registries = slice_set w.registries r v }) ((st, Answer.Refused e) ∷ h)
    refused e v why after one =
        lent-refused s r in_ one (group-refused M h r a cs (there-as true on) e (why _ _ (s.kept r u in_))) after

    joins : (n : ℕ) (z : GateValue) (v : RegistryValue WorldRule) (e : EntryValue C) → n ≡ length w.groups → z ≡ get_or w.gates a z
        → Tells u (λ k es. IsNewEntry r a z.id cs (registry.registered_after es + 1) e
        × IsRegistryAfter key_gives k (registry.Applied ∷ registry.Registered ∷ es) v)
        → Tells u (λ k es. making_cause (least (map (M.refusal []) cs)) (registry.registered_after es) ≡ None)
        → e.core.registry ≡ u.id → v.id ≡ u.id
        → Stands M (record w { registries = slice_set w.registries r v; groups = w.groups ++ e ∷ [] }) ((st, Answer.Group n) ∷ h)
    joins n z v e number gate-read makes none own one =
        let new = (makes _ _ (s.kept r u in_)).0 in
        let now = (makes _ _ (s.kept r u in_)).1 in
        let right = group-made M h r a cs (there-as true on) (none _ _ (s.kept r u in_)) in
        let more : length (slice_set w.registries r v) ≡ length w.registries = length-set w.registries r v in
        tables-set s ((st, Answer.Group n) ∷ h) (slice_set w.registries r v) w.gates (w.groups ++ e ∷ [])
        (s.run, inl (ap Answer.Group (number ∙ s.groups_are) ∙ sym right)) (more ∙ s.registries_are)
        (remain-set w.registries r u v in_ one) s.gates_are
        (length_push w.groups e ∙ ap (λ i. i + 1) s.groups_are ∙ sym (length_push (made h) _)) refl
        (each-set w.registries r u v in_ (rw (eq-eqb r r refl) now)
        (λ i x off was. rw (ne_eqb r i (λ q. off (sym q))) (s.kept i x was)))
        s.outs (λ x y was. was) (λ g m at. get-kept (made h) _ m g at) (λ g. refl) (λ g. refl) (λ g i. refl) (λ g b. refl)
        (each-push w.groups e (inr (
          omega arith,
          rw s.groups_are (entry-made M h r a z.id cs n e s.run (omega (arith, sites.0, s.registries_are)) new),
          record {
            view = z;
            gate = ap (slice_get w.gates) new.gate_is ∙ at-place w.gates a z (omega (arith, sites.1, s.gates_are)) gate-read;
            id = sym new.id_is;
            shared = v;
            registry = ap (slice_get (slice_set w.registries r v)) new.registry_is ∙ set_found w.registries r u v in_;
            one = one ∙ sym own;
          },
        )) (λ g x low was. inl was))

pub returns-then-not-has : goal.returns-then-not-has
returns-then-not-has g c =
    λ h s. absent s c.args.registry c.args.gate c.args.configs.items (sym c.has.ensures ∙ c.if-not-has.true) _
    (rw c.deref.ensures.value at (c.absent_cause.ensures ∙ ap (earlier (Some Refusal.NoSuch)) c.least_refusal.ensures))

pub returns-in_default : goal.returns-in_default
returns-in_default g c =
    rw c.reserve.ensures.items
    (λ h s. refused s c.args.registry c.args.gate c.args.configs.items (sym c.has.ensures ∙ c.if-not-has.false)
    c.index_mut-registry.ensures.value _ _ (rw c.deref-in_default.ensures.value at c.starved_cause.ensures) (λ k es now. now) refl)

pub returns-in_default-with_capacity : goal.returns-in_default-with_capacity
returns-in_default-with_capacity g c =
    rw c.reserve.ensures.items
    (λ h s. refused s c.args.registry c.args.gate c.args.configs.items (sym c.has.ensures ∙ c.if-not-has.false)
    c.index_mut-registry.ensures.value _ _
    (rw c.deref-in_default-with_capacity.ensures.value at c.starved_cause-in_default-with_capacity.ensures) (λ k es now. now) refl)

pub returns-in-Ok-new : goal.returns-in-Ok-new
returns-in-Ok-new g c =
    let last : c.len-number.result ≡ length c.args.self.now.groups.items =
    omega (arith, c.len-number.ensures, ap length c.reserve.ensures.items) in
    λ h s.
    rw (c.push_reserved.ensures.items, c.reserve.ensures.items)
    (joins s c.args.registry c.args.gate c.args.configs.items (sym c.has.ensures ∙ c.if-not-has.false) c.index_mut-registry.ensures.value
    _ _ _ c.in-Ok-new.entry last c.index.ensures c.in-Ok-new.ensures.made c.in-Ok-new.ensures.uncaused
    c.in-Ok-new.ensures.site c.new.ensures.one_registry)

pub returns-in-Err : goal.returns-in-Err
returns-in-Err g c =
    rw c.reserve.ensures.items
    (λ h s.
    refused s c.args.registry c.args.gate c.args.configs.items (sym c.has.ensures ∙ c.if-not-has.false) c.index_mut-registry.ensures.value
    c.in-Err.refusal _ c.in-Err.ensures.refused c.in-Err.ensures.err c.new.ensures.one_registry)
