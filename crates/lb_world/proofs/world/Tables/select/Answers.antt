-- The group with its registry, which the entry's call borrows; its gate stays as it is.
use Rattle.lb_world.specs.Steps.{select}
use Rattle.lb_world.proofs.Words.{◌∙◌, ap, arith, at-place, inl, meaning_of, refl, set-same, slice_get_within, sym}
use Rattle.lb_world.proofs.Tables.{before, no-group, own-kept, own-registry, world-moves, world-refused}
use Rattle.lb_world.proofs.world.Tables.select.Goals as goal

pub returns-then-group-len : goal.returns-then-group-len
returns-then-group-len g c = λ h s. world-refused s (rw (no-group s c.args.group (omega arith)) refl)

pub index-registry-requires : goal.index-registry-requires
index-registry-requires g c =
    let at = at-place c.args.self.now.groups.items c.args.group _ (omega arith) c.index_mut-entry.ensures.value in
    let on = c.requires.founded.stands.on_site _ _ at in
    omega (arith, c.registry.ensures, slice_get_within c.args.self.now.registries.items _ _ on.registry)

pub select-requires : goal.select-requires
select-requires g c =
    let at = at-place c.args.self.now.groups.items c.args.group _ (omega arith) c.index_mut-entry.ensures.value in
    let on = c.requires.founded.stands.on_site _ _ at in
    let low = slice_get_within c.args.self.now.registries.items _ _ on.registry in
    let at_registry =
    rw c.registry.ensures
    at (at-place c.args.self.now.registries.items c.registry.result _ (omega (arith, c.registry.ensures, low)) c.index-registry.ensures) in
    record { registry = own-registry c.requires.founded.stands c.args.group _ _ at at_registry }

pub returns : goal.returns
returns g c =
    let at = at-place c.args.self.now.groups.items c.args.group _ (omega arith) c.index_mut-entry.ensures.value in
    let on = c.requires.founded.stands.on_site _ _ at in
    let low = slice_get_within c.args.self.now.registries.items _ _ on.registry in
    let at_registry =
    rw c.registry.ensures
    at (at-place c.args.self.now.registries.items c.registry.result _ (omega (arith, c.registry.ensures, low)) c.index-registry.ensures) in
    λ h s.
    let next = c.select.ensures on.view h c.args.group (before s c.args.group _ on.view _ at on.gate at_registry) in
    rw (set-same c.args.self.now.registries.items _ _ at_registry, set-same c.args.self.now.gates.items _ on.view on.gate)
    at (world-moves s c.args.group (select c.args.group c.args.slot c.args.key.now c.args.limit c.args.words.now) c.select.result
    _ _ on.view on.view _ _ _ refl s.readers_are (own-kept s c.args.group _ _ at (ap (λ o. o.id) next.origin_is)) at on.gate at_registry
    next)
