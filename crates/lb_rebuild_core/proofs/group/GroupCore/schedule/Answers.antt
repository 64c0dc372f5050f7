-- A membership reaches group and view, or neither.
use Rattle.std.proofs.Common.{◌≡◌, ◌+◌, ◌^◌, ◌&&◌, ◌==◌, ◌∙◌, [], ◌∷◌, ◌++◌, refl, ap, sym, subst, Bool, true, false, not, List}
use Rattle.std.proofs.Common.{ℕ, length, Option, Some, None, rules, arith, Result, Ok, Err, if◌then◌else◌}
use Rattle.std.proofs.lemmas.Bool.{false≢true, eq-eqb}
use Rattle.std.specs.Prelude.{◌≢◌}
use Rattle.lb_select_base.specs.Backends.{Member}
use Rattle.lb_select_base.specs.Memberships.{same_members}
use Rattle.lb_select_base.specs.declared.refusal.Refusal.{Refusal}
use Rattle.lb_select_base.specs.declared.refusal.Refusal.TheVariants.{GenerationsExhausted}
use Rattle.lb_rebuild_core.specs.SlotsCalls as slots
use Rattle.lb_rebuild_core.specs.SlotsCalls.{IsCommitted, Prepares, is_change, schedule_refusal, turns_after}
use Rattle.lb_rebuild_core.specs.SlotsHistory as past
use Rattle.lb_rebuild_core.specs.SlotsHistory.{Scheduled, newest}
use Rattle.lb_rebuild_core.specs.Stands.{Made, StandsFor}
use Rattle.lb_rebuild_core.specs.Values.{PreparedValue}
use Rattle.lb_rebuild_core.specs.declared.membership.Scheduled as answer
use Rattle.lb_health_core.specs.RegistryEvents.{shown_cells}
use Rattle.lb_health_view.specs.RegistrySide.{settings_of}
use Rattle.lb_health_view.specs.ViewEvents.{generation_after, membership_after}
use Rattle.lb_rebuild_core.specs.GroupHistory.{History, slot_events, members_now}
use Rattle.lb_rebuild_core.specs.GroupStates.{views_of}
use Rattle.lb_rebuild_core.proofs.Joins.{none-change, some-change, refused-schedule, view-refused, schedules, error-is}
use Rattle.lb_rebuild_core.proofs.Histories.{generation-is, members-are}
use Rattle.lb_rebuild_core.proofs.group.GroupCore.schedule.Goals as goal

pub invariant_of-self-in-None : goal.invariant_of-self-in-None
invariant_of-self-in-None g c =
    let p = c.self.invariant in
    let s = p.1.1 in
    let shown = c.in_ok-update.ensures.updated.some in (
      p.0,
      (
        _,
        schedules p.0 p.1.0 c.args.discovered.keys shown.0 (settings_of c.args.settings.entries) c.args.now false c.self.inside.group
            c.update.new.self s.few
            (none-change p.0 (slot_events p.1.0) c.args.discovered.keys c.in_ok-prepared.prepared c.in-None.is
            (c.in_ok-prepared.ensures.answers p.0 (slot_events p.1.0) s.group))
            s.group (shown.1 (views_of p.0 p.1.0) s.view),
      ),
    )

pub invariant_of-self-in-Some : goal.invariant_of-self-in-Some
invariant_of-self-in-Some g c =
    let p = c.self.invariant in
    let s = p.1.1 in
    let shown = c.in_ok-update.ensures.updated.some in
    let change = some-change p.0 (slot_events p.1.0) c.args.discovered.keys c.in_ok-prepared.prepared c.in-Some.prepared c.in-Some.is
    (c.in_ok-prepared.ensures.answers p.0 (slot_events p.1.0) s.group) in
    let after : StandsFor p.0 (Scheduled c.args.discovered.keys c.args.now ∷ slot_events p.1.0) c.commit.new.self =
    subst (λ ms. StandsFor p.0 (Scheduled ms c.args.now ∷ slot_events p.1.0) c.commit.new.self) change.1
    (c.commit.ensures.stands p.0 (slot_events p.1.0) s.group) in (
      p.0,
      (
        _,
        schedules p.0 p.1.0 c.args.discovered.keys shown.0 (settings_of c.args.settings.entries) c.args.now true c.commit.new.self
            c.update.new.self s.few change.0
            after (shown.1 (views_of p.0 p.1.0) s.view),
      ),
    )

not_true : (b : Bool) → not b ≡ true → b ≡ false
not_true true e = absurd (cc)
not_true false e = refl

-- another membership of the group is another one of the view
differs : {C : Type 0} (made : Made C) (e : History) (members : List Member) → is_change members (slot_events e) ≡ true
    → same_members members (membership_after (views_of made e)) ≡ false
differs made e members change =
    ap (same_members members) (members-are (length made.configs) e) ∙ not_true (same_members members (members_now e)) change

-- a generation is left where the group refuses another membership for no cause
generation_left : {C : Type 0} (made : Made C) (e : History) (members : List Member) → schedule_refusal members (slot_events e) ≡ None
    → is_change members (slot_events e) ≡ true → generation_after (views_of made e) + 1 ≢ 2 ^ 64
generation_left made e members none change full =
    let last : newest (slot_events e) ≡ 18446744073709551615 = omega (arith, full, generation-is (length made.configs) e) in
    none_left (is_change members (slot_events e)) (newest (slot_events e) == 18446744073709551615) _ change
    (eq-eqb (newest (slot_events e)) 18446744073709551615 last) none
  where
    none_left : (a b : Bool) (o : Option Refusal) → a ≡ true → b ≡ true → (if a && b then Some GenerationsExhausted else o) ≡ None → ⊥
    none_left true true o s t e = cc
    none_left true false o s t e = cc
    none_left false b o s t e = cc

-- the same of what is that generation
one_left : {n m : ℕ} → n ≡ m → m + 1 ≢ 2 ^ 64 → n + 1 ≢ 2 ^ 64
one_left is left full = left (ap (λ k. k + 1) (sym is) ∙ full)

-- an answer is no refusal
answered : {A E : Type 0} (x : A) (e : E) → (let ok : Result A E = Ok x in let err : Result A E = Err e in ok ≡ err) → ⊥
answered x e h = cc

-- the answer to the same membership is right
same_told : {C : Type 0} (made : Made C) (h : past.History) (members : List Member) (o : Option (PreparedValue C)) (s : answer.Scheduled)
    → o ≡ None
    → Prepares made h members (Ok o) → s.changed ≡ false → s.generation ≡ newest h → s.turns.items ≡ []
    → slots.Schedules made h members (Ok s)
same_told made h members None s is p changed generation turns = (
  p.0,
  changed ∙ sym p.1,
  subst (λ (b : Bool). s.generation ≡ (if b then newest h + 1 else newest h)) (sym p.1) generation,
  subst (λ (b : Bool). s.turns.items ≡ (if b then turns_after 0 made.configs h else [])) (sym p.1) turns,
)
same_told made h members (Some q) s is p changed generation turns = absurd (cc)

-- the answer to another one is right
other_told : {C : Type 0} (made : Made C) (h : past.History) (members : List Member) (o : Option (PreparedValue C)) (q : PreparedValue C)
    (s : answer.Scheduled) → o ≡ Some q
    → Prepares made h members (Ok o) → IsCommitted q s → slots.Schedules made h members (Ok s)
other_told {C} made h members o q s is fits told =
    let p : Prepares made h members (Ok (Some q)) = subst (λ (x : Option (PreparedValue C)). Prepares made h members (Ok x)) is fits in (
      p.0,
      told.1 ∙ sym p.1,
      subst (λ (b : Bool). s.generation ≡ (if b then newest h + 1 else newest h)) (sym p.1) (told.0 ∙ p.2),
      subst (λ (b : Bool). s.turns.items ≡ (if b then turns_after 0 made.configs h else [])) (sym p.1) (told.2 ∙ p.4),
    )

pub returns-in_err-prepared : goal.returns-in_err-prepared
returns-in_err-prepared g c =
    let p = c.self.invariant in
    let own = p.1.1.group in
    let known = c.in_err-prepared.ensures in
    let is : c.from_residual.result ≡ Err c.in_err-prepared.field-0.0 = search rules in
    rw (is, ← c.self.view_is) (record {
      answers = λ made e s. known.refused made (slot_events e) s.group;
      stands = tt;
      group = tt;
      registry = tt;
      err = λ made e s. s;
      registry_err = λ key_of events r. r;
      refusals = record {
        unknown = λ why. (known.refusals p.0 (slot_events p.1.0) own).unknown (error-is _ _ why);
        numbers = λ why. (known.refusals p.0 (slot_events p.1.0) own).numbers (error-is _ _ why);
        missing = λ key_of events r made e s none change has.
            ap Err ((known.refusals made (slot_events e) s.group).missing key_of events r none has);
        lacking = λ key_of events r made e s none change has few.
            ap Err ((known.refusals made (slot_events e) s.group).lacking key_of events r none has few);
      };
      site = record { group = record { id = refl; gate = refl; configs = refl }; id = refl; registry = refl };
      one_registry = refl;
    })

pub returns-in_err-update : goal.returns-in_err-update
returns-in_err-update g c =
    let members = c.args.discovered.keys in
    let known = c.in_err-update.ensures.updated in
    let refusals = known.refusals in
    let is : c.from_residual-in_err-update.result ≡ Err c.in_err-update.field-0.0 = search rules in
    rw (is, ← c.self.view_is) (record {
      answers = λ made e s. refused-schedule made e members _ c.in_ok-prepared.prepared c.in_err-update.field-0.0 s.group
          (c.in_ok-prepared.ensures.answers made (slot_events e) s.group) c.in_ok-prepared.ensures.fits
          (λ same. absurd (false≢true (known.same (views_of made e) s.view same)))
          (λ why. ap (λ n. n + 1) (sym s.view.generation) ∙ refusals.last (ap Err why))
          (view-refused c.in_err-update.field-0.0 refusals.refused);
      stands = tt;
      group = tt;
      registry = tt;
      err = λ made e s. record { few = s.few; group = s.group; view = refusals.view_err (views_of made e) s.view };
      registry_err = refusals.registry_err;
      refusals = record {
        unknown = λ why. refusals.registry.unknown (ap Err (error-is _ _ why));
        numbers = λ why. refusals.registry.numbers (ap Err (error-is _ _ why));
        missing = λ key_of events r made e s none change has.
            ap Err (error-is _ _ (refusals.registry.missing key_of events r (views_of made e) s.view (differs made e members change)
            (one_left s.view.generation (generation_left made e members none change)) has));
        lacking = λ key_of events r made e s none change has few.
            ap Err (error-is _ _ (refusals.registry.lacking key_of events r (views_of made e) s.view (differs made e members change)
            (one_left s.view.generation (generation_left made e members none change)) has few));
      };
      site = record { group = record { id = refl; gate = refl; configs = refl }; id = refusals.id; registry = refl };
      one_registry = refusals.one_registry;
    })

pub returns-in-None : goal.returns-in-None
returns-in-None g c =
    let members = c.args.discovered.keys in
    let known = c.in_ok-update.ensures.updated in
    rw (← c.self.view_is) (record {
      answers = λ made e s. same_told made (slot_events e) members c.in_ok-prepared.prepared
          (record { generation = c.newest.result; changed = false; turns = c.new.result }) c.in-None.is
          (c.in_ok-prepared.ensures.answers made (slot_events e) s.group) refl (c.newest.ensures made (slot_events e) s.group)
          (search rules);
      stands = λ key_of events r made e s. schedules made e members (shown_cells key_of c.self.inside.view.id members events)
          (settings_of c.args.settings.entries) c.args.now false c.self.inside.group c.update.new.self s.few
          (none-change made (slot_events e) members c.in_ok-prepared.prepared c.in-None.is
          (c.in_ok-prepared.ensures.answers made (slot_events e) s.group))
          s.group (known.view key_of (views_of made e) events s.view r);
      group = λ made e s. s.group;
      registry = λ key_of events r made e s. known.registry key_of (views_of made e) events s.view r;
      err = tt;
      registry_err = tt;
      refusals = record {
        unknown = λ why. absurd (answered _ _ why);
        numbers = λ why. absurd (answered _ _ why);
        missing = λ key_of events r made e s none change has.
            absurd (false≢true (sym (none-change made (slot_events e) members c.in_ok-prepared.prepared c.in-None.is
            (c.in_ok-prepared.ensures.answers made (slot_events e) s.group)) ∙ change));
        lacking = λ key_of events r made e s none change has few.
            absurd (false≢true (sym (none-change made (slot_events e) members c.in_ok-prepared.prepared c.in-None.is
            (c.in_ok-prepared.ensures.answers made (slot_events e) s.group)) ∙ change));
      };
      site = record { group = record { id = refl; gate = refl; configs = refl }; id = known.refusals.id; registry = refl };
      one_registry = known.refusals.one_registry;
    })

pub returns-in-Some : goal.returns-in-Some
returns-in-Some g c =
    let members = c.args.discovered.keys in
    let known = c.in_ok-update.ensures.updated in
    let change = λ (made : Made g.row.S-Config.Denot) (e : History) (s : StandsFor made (slot_events e) c.self.inside.group).
    some-change made (slot_events e) members c.in_ok-prepared.prepared c.in-Some.prepared c.in-Some.is
    (c.in_ok-prepared.ensures.answers made (slot_events e) s) in
    let after = λ (made : Made g.row.S-Config.Denot) (e : History) (s : StandsFor made (slot_events e) c.self.inside.group).
    subst (λ (ms : List Member). StandsFor made (Scheduled ms c.args.now ∷ slot_events e) c.commit.new.self) (change made e s).1
    (c.commit.ensures.stands made (slot_events e) s) in
    rw (← c.self.view_is) (record {
      answers = λ made e s. other_told made (slot_events e) members c.in_ok-prepared.prepared c.in-Some.prepared c.commit.result
          c.in-Some.is (c.in_ok-prepared.ensures.answers made (slot_events e) s.group) c.commit.ensures.answers;
      stands = λ key_of events r made e s. schedules made e members (shown_cells key_of c.self.inside.view.id members events)
          (settings_of c.args.settings.entries) c.args.now true c.commit.new.self c.update.new.self s.few (change made e s.group).0
          (after made e s.group) (known.view key_of (views_of made e) events s.view r);
      group = λ made e s. subst (λ (b : Bool). StandsFor made ((if b then Scheduled members c.args.now ∷ [] else []) ++ slot_events e)
          c.commit.new.self) (sym c.commit.ensures.answers.1) (after made e s.group);
      registry = λ key_of events r made e s. known.registry key_of (views_of made e) events s.view r;
      err = tt;
      registry_err = tt;
      refusals = record {
        unknown = λ why. absurd (answered _ _ why);
        numbers = λ why. absurd (answered _ _ why);
        missing = λ key_of events r made e s none other has.
            absurd (answered _ _ (known.refusals.registry.missing key_of events r (views_of made e) s.view (differs made e members other)
            (one_left s.view.generation (generation_left made e members none other)) has));
        lacking = λ key_of events r made e s none other has few.
            absurd (answered _ _ (known.refusals.registry.lacking key_of events r (views_of made e) s.view (differs made e members other)
            (one_left s.view.generation (generation_left made e members none other)) has few));
      };
      site = record { group = c.commit.ensures.site; id = known.refusals.id; registry = refl };
      one_registry = known.refusals.one_registry;
    })
