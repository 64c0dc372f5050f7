-- The right answers to the making of a group; and what holds of what was made, and of what isn't made yet: a gate that isn't there is
-- not out, no load was set at a group that isn't there, and the slot that a reader entered is there.
use Rattle.std.proofs.Common.{◌≡◌, ◌⊎◌, subst, ◌++◌, ◌<◌, ◌≤◌, ◌+◌, ◌^◌, ◌&&◌, ◌∙◌, ℕ, zero, suc, Bool, true, false, map, nat_le, nat_lt}
use Rattle.std.proofs.Common.{List, [], ◌∷◌, length, inl, inr, refl, sym, ap, arith}
use Rattle.std.specs.Prelude.{Option, Some, None, slice_get, slice_set}
use Rattle.std.specs.Option.{option_map}
use Rattle.std.proofs.lemmas.Bool.{and_parts, ltb-true, ne_eqb}
use Rattle.std.proofs.lemmas.Option.{none-some, same_Some, slice_get_past}
use Rattle.lb_select_base.specs.Backends.{Member}
use Rattle.lb_select_base.specs.Refusals.{earlier, least}
use Rattle.lb_select_base.specs.declared.refusal.Refusal.{Refusal}
use Rattle.lb_select_base.specs.declared.refusal.Refusal.TheVariants as refusal
use Rattle.lb_health_core.specs.RegistryEvents as registry
use Rattle.lb_world.specs.Steps.{Step}
use Rattle.lb_world.specs.Steps as step
use Rattle.lb_world.specs.declared.answer.Answer.{Answer}
use Rattle.lb_world.specs.declared.answer.Answer.TheVariants as answer
use Rattle.lb_world.specs.Meanings.{Meaning}
use Rattle.lb_world.specs.History.{config, config_in, Entered, entries, gate_at, gates, History, idle, is_out, load_of, Made, made, made_at}
use Rattle.lb_world.specs.History.{registries, work}
use Rattle.lb_world.specs.Shared.{registry_events}
use Rattle.lb_world.specs.GroupEvents.{group_events}
use Rattle.lb_world.specs.Answers.{Answers, IsRun, no_number, no_such, refuse, unless_refused, without_memory}
use Rattle.lb_world.proofs.Absent.{absent, config-made, found, get-front}
use Rattle.lb_world.proofs.Accepted.{earlier-none, right-is, unrefused, right_answer}
use Rattle.lb_world.specs.Internal.Calls.{making_cause, or_memory}
use Rattle.lb_world.proofs.Causes.{caused, cause-first, earlier-assoc, none-missing, refused-for, uncaused}
use Rattle.lb_world.proofs.Counting.{permits-out}
use Rattle.lb_world.proofs.Extras.{get-kept}
use Rattle.lb_world.proofs.Numbering.{numbered}
use Rattle.lb_world.proofs.Together.{get-pushed, nothing-joined}

module _ {C : Type 0} (M : Meaning C) (h : History C) (r a : ℕ) (cs : List C) where
  abbrev making : Step C
  making = step.group r a cs

  -- why no group is made over a registry and a gate that are there
  abbrev cause : Option Refusal
  cause = making_cause (least (map (M.refusal []) cs)) (registry.registered_after (registry_events r h))

  abbrev made_now : Answer
  made_now = answer.Group (length (made h))

  told : (there : Bool) → (nat_lt r (length (registries h)) && nat_lt a (gates h)) ≡ there
      → right_answer M h making ≡ unless_refused (earlier (no_such there) cause) made_now
  told there is = ap (λ b. unless_refused (earlier (no_such b) cause) made_now) is

  pub group-absent : (nat_lt r (length (registries h)) && nat_lt a (gates h)) ≡ false → (e : Refusal)
      → Some e ≡ earlier (Some refusal.NoSuch) (least (map (M.refusal []) cs)) → Answers M h making (refuse e)
  group-absent off e is =
      caused making made_now (told false off)
      (earlier-assoc (Some refusal.NoSuch) (least (map (M.refusal []) cs)) (no_number (registry.registered_after (registry_events r h) + 1))
      ∙ cause-first (nat_le (2 ^ 64) (registry.registered_after (registry_events r h) + 1)) (sym is))

  pub group-refused : (nat_lt r (length (registries h)) && nat_lt a (gates h)) ≡ true → (e : Refusal) → e ≡ or_memory cause
      → Answers M h making (refuse e)
  group-refused on e is =
      subst (λ (x : Answer). (refuse e ≡ x) ⊎ (refuse e ≡ without_memory making x)) (sym (told true on))
      (elim (refused-for making made_now refl cause) [ inl own ↦ inl (ap refuse is ∙ own) | inr memory ↦ inr (ap refuse is ∙ memory) ])

  pub group-made : (nat_lt r (length (registries h)) && nat_lt a (gates h)) ≡ true → cause ≡ None → right_answer M h making ≡ made_now
  group-made on none = uncaused making made_now (told true on) none

-- the gate of a slot is that of its group
slot-on : {C : Type 0} (s x : ℕ) (o : Option (Made C)) → gate_at s o ≡ Some x → (m : Made C) × ((o ≡ Some m) × (m.gate ≡ x))
slot-on s x None e = absurd (none-some x e)
slot-on {C} s x (Some m) e = (m, (refl, on (slice_get m.configs s) e)) where
  on : (c : Option C) → option_map (λ c. m.gate) c ≡ Some x → m.gate ≡ x
  on None e = absurd (none-some x e)
  on (Some c) e = same_Some m.gate x e

-- what is in a list after a place was emptied was there before
pub still-there : {X : Type 0} (xs : List (Option X)) (i j : ℕ) (x : X) → slice_get (slice_set xs i None) j ≡ Some (Some x)
    → slice_get xs j ≡ Some (Some x)
still-there {X} (y ∷ xs) zero zero x at = absurd (none-some x (same_Some _ _ at))
still-there (y ∷ xs) (suc i) (suc j) x at = still-there xs i j x at
still-there xs i j x at = at

-- the one that was added at the end is there
pub get_last : {X : Type 0} (xs : List X) (y : X) → slice_get (xs ++ y ∷ []) (length xs) ≡ Some y
get_last [] y = refl
get_last (a ∷ xs) y = get_last xs y

module _ {C : Type 0} (M : Meaning C) where
  -- groups are made over gates that are there
  gates-there : (h : History C) → IsRun M h → (g : ℕ) (m : Made C) → made_at g h ≡ Some m → m.gate < gates h
  gates-there [] run g m at = absurd (none-some m at)
  gates-there ((step.gate, answer.Gate n) ∷ h) run g m at = let low = gates-there h run.0 g m at in omega (arith, low)
  gates-there ((step.group r a cs, answer.Group n) ∷ h) run g m at =
      elim (get-pushed (made h) _ m g at) [
        | inl new ↦
            let told = right-is {C = C} (step.group r a cs) (right_answer M h (step.group r a cs)) (answer.Group n) run.1 refl in
            let parts = and_parts (nat_lt r (length (registries h))) (nat_lt a (gates h))
            (none-missing _ (earlier-none _ _ (unrefused _ _ (answer.Group n) told refl).0)) in
            rw new.1 (ltb-true a (gates h) parts.1)
        | inr old ↦ gates-there h run.0 g m old.1
      ]
  gates-there ((st, a) ∷ h) run g m at = gates-there h run.0 g m at

  -- the permit of a gate that isn't there is not out
  pub gate-unmade : (h : History C) → IsRun M h → is_out (gates h) h ≡ false
  gate-unmade h run = by-out (is_out (gates h) h) refl
    where
      by-out : (b : Bool) → is_out (gates h) h ≡ b → b ≡ false
      by-out false is = refl
      by-out true is =
          let whose = (permits-out M h run).whose (gates h) is in
          let m = slot-on whose.1 (gates h) (made_at whose.0 h) whose.2 in
          let low = gates-there h run whose.0 m.0 m.1.0 in
          absurd (omega (arith, low, m.1.1))

  -- no load was set at a group that isn't there
  nothing-loaded : (h : History C) → IsRun M h → (g : ℕ) → made_at g h ≡ None → (b : Member) → load_of g b h ≡ 0
  nothing-loaded [] run g none b = refl
  nothing-loaded ((step.group r a cs, answer.Group n) ∷ h) run g none b = nothing-loaded h run.0 g (get-front (made h) _ g none) b
  nothing-loaded ((step.load i (Some c) l, answer.Done) ∷ h) run g none b =
      let m = found {C = C} (step.load i (Some c) l) (made_at i h) _ answer.Done refl run.1 in
      rw (ne_eqb i g (λ e. none-some m.0 (sym none ∙ sym (ap (λ j. made_at j h) e) ∙ m.1))) (nothing-loaded h run.0 g none b)
  nothing-loaded ((st, a) ∷ h) run g none b = nothing-loaded h run.0 g none b

  -- the slot that a reader entered is there
  pub entered-there : (h : History C) → IsRun M h → (t : ℕ) (e : Entered) → slice_get (entries h) t ≡ Some (Some e) → (c : C)
      × (config e.group e.slot h ≡ Some c)
  entered-there [] run t e at = absurd (none-some (Some e) at)
  entered-there ((step.group r a cs, answer.Group n) ∷ h) run t e at =
      let c = entered-there h run.0 t e at in
      let m = config-made e.slot (made_at e.group h) c.0 c.1 in
      (c.0, ap (config_in e.slot) (get-kept (made h) _ m.0 e.group m.1) ∙ sym (ap (config_in e.slot) m.1) ∙ c.1)
  entered-there ((step.enter g s, answer.Reader u n) ∷ h) run t e at =
      elim (get-pushed (entries h) _ (Some e) t at) [
        | inl p ↦
            let c = found {C = C} (step.enter g s) (config g s h) _ (answer.Reader u n) refl run.1 in
            let same : e ≡ record { group = g; slot = s; generation = n } = same_Some _ _ p.1 in
            (c.0, ap (λ x. config x.group x.slot h) same ∙ c.1)
        | inr p ↦ entered-there h run.0 t e p.1
      ]
  entered-there ((step.leave u, answer.Left n) ∷ h) run t e at = entered-there h run.0 t e (still-there (entries h) u t e at)
  entered-there ((st, a) ∷ h) run t e at = entered-there h run.0 t e at

module _ {C : Type 0} (h : History C) (r a : ℕ) (cs : List C) (n : ℕ) where
  abbrev then : History C
  then = (step.group r a cs, answer.Group n) ∷ h

  -- a group that was made has the next number for its view, and nothing has happened to it
  pub record Starts : Type 0 where
    pub made_is : made_at (length (made h)) then
        ≡ Some (record { registry = r; gate = a; view = registry.registered_after (registry_events r h) + 1; configs = cs })
    pub joins : group_events (length (made h)) then ≡ []
    pub works : (s : ℕ) → work (length (made h)) s then ≡ idle
    pub loads : (b : Member) → load_of (length (made h)) b then ≡ 0

  pub starts : (M : Meaning C) → IsRun M h → r < length (registries h) → Starts
  starts M run within =
      let none : made_at (length (made h)) h ≡ None = slice_get_past (made h) (length (made h)) (omega arith) in
      record {
        made_is = get_last (made h) _
            ∙ ap (λ k. Some (record { registry = r; gate = a; view = k + 1; configs = cs })) (sym (numbered M h run r within));
        joins = nothing-joined M h run (length (made h)) none;
        works = (absent M h run (length (made h)) none).works;
        loads = nothing-loaded M h run (length (made h)) none;
      }
