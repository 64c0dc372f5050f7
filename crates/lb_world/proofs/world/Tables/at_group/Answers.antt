-- The group with its gate and its registry, which the entry's call borrows.
use Rattle.lb_world.specs.Internal.GroupSteps.{IsWhole, group_step_seen}
use Rattle.lb_world.specs.declared.group_step.GroupStep.{GroupStep}
use Rattle.lb_world.proofs.Words.{◌∷◌, ◌∙◌, ◌≡◌, Answer, Answers, ap, arith, entries, group_at, History, inl, made_at, Meaning, meaning_of}
use Rattle.lb_world.proofs.Words.{None, refl, Refusal, same_Some, slice_get_within, Some, sym, ℕ, at-place}
use Rattle.lb_world.proofs.Tables.{before, no-group, own-kept, own-registry, world-moves, world-refused}
use Rattle.lb_world.proofs.world.Tables.at_group.Goals as goal

-- no such group
absent-right : {C : Type 0} (M : Meaning C) (h : History C) (g : ℕ) (l : GroupStep) → made_at g h ≡ None → IsWhole l
    → Answers M h (group_step_seen g l) (Answer.Refused Refusal.NoSuch)
absent-right M h g (GroupStep.Update now listings) none whole = inl (rw (whole, none) refl)
absent-right M h g l none whole = inl (rw none refl)

local-at : {C : Type 0} (h : History C) (g : ℕ) (l : GroupStep) → group_at h (group_step_seen g l) ≡ Some g
local-at h g GroupStep.Cancel = refl
local-at h g l = refl

local-entries : {C : Type 0} (h : History C) (g : ℕ) (l : GroupStep) (a : Answer) → entries ((group_step_seen g l, a) ∷ h) ≡ entries h
local-entries h g GroupStep.Cancel a = refl
local-entries h g l a = refl

pub returns-then-group-len : goal.returns-then-group-len
returns-then-group-len g c =
    λ h s.
    world-refused s
    (absent-right (meaning_of g.S.BackendSelection) h c.args.group c.args.local (no-group s c.args.group (omega arith)) c.requires.whole)

pub index_mut-gate-requires : goal.index_mut-gate-requires
index_mut-gate-requires g c =
    let at = at-place c.args.self.now.groups.items c.args.group _ (omega arith) c.index_mut-entry.ensures.value in
    let on = c.requires.founded.stands.on_site _ _ at in
    omega (arith, c.gate.ensures, slice_get_within c.args.self.now.gates.items _ _ on.gate)

pub index_mut-registry-requires : goal.index_mut-registry-requires
index_mut-registry-requires g c =
    let at = at-place c.args.self.now.groups.items c.args.group _ (omega arith) c.index_mut-entry.ensures.value in
    let on = c.requires.founded.stands.on_site _ _ at in
    omega (arith, c.registry.ensures, slice_get_within c.args.self.now.registries.items _ _ on.registry)

pub take-requires : goal.take-requires
take-requires g c =
    let at = at-place c.args.self.now.groups.items c.args.group _ (omega arith) c.index_mut-entry.ensures.value in
    let on = c.requires.founded.stands.on_site _ _ at in
    let low = slice_get_within c.args.self.now.gates.items _ _ on.gate in
    let at_gate =
    rw c.gate.ensures
    at (at-place c.args.self.now.gates.items c.gate.result _ (omega (arith, c.gate.ensures, low)) c.index_mut-gate.ensures.value) in
    let in_ = slice_get_within c.args.self.now.registries.items _ _ on.registry in
    let at_registry =
    rw c.registry.ensures
    at (at-place c.args.self.now.registries.items c.registry.result _ (omega (arith, c.registry.ensures, in_))
    c.index_mut-registry.ensures.value) in
    let was = c.requires.founded in
    record {
      gate = ap (λ z. z.id) (same_Some c.index_mut-gate.result.now on.view (sym at_gate ∙ on.gate)) ∙ on.id;
      registry = own-registry was.stands c.args.group _ _ at at_registry;
      whole = c.requires.whole;
      stands = record { history = was.history; number = c.args.group; run = was.stands.run; is = was.stands.each c.args.group _ at };
    }

pub returns : goal.returns
returns g c =
    let at = at-place c.args.self.now.groups.items c.args.group _ (omega arith) c.index_mut-entry.ensures.value in
    let on = c.requires.founded.stands.on_site _ _ at in
    let low = slice_get_within c.args.self.now.gates.items _ _ on.gate in
    let at_gate =
    rw c.gate.ensures
    at (at-place c.args.self.now.gates.items c.gate.result _ (omega (arith, c.gate.ensures, low)) c.index_mut-gate.ensures.value) in
    let in_ = slice_get_within c.args.self.now.registries.items _ _ on.registry in
    let at_registry =
    rw c.registry.ensures
    at (at-place c.args.self.now.registries.items c.registry.result _ (omega (arith, c.registry.ensures, in_))
    c.index_mut-registry.ensures.value) in
    rw (c.gate.ensures, c.registry.ensures)
    (λ h s.
    let l = c.args.local in
    let next_ = c.take.ensures h c.args.group (before s c.args.group _ _ _ at at_gate at_registry) in
    world-moves s c.args.group (group_step_seen c.args.group l) c.take.result _ _ _ _ _ _ _ (local-at h c.args.group l)
    (s.readers_are ∙ sym (local-entries h c.args.group l c.take.result))
    (own-kept s c.args.group _ _ at (ap (λ o. o.id) next_.origin_is)) at at_gate at_registry next_)
