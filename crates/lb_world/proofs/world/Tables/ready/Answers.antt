-- Readiness is asked of the group that the reader is in, with the group's registry.
use Rattle.lb_world.proofs.Words.{◌∙◌, ap, arith, inl, inr, None, refl, slice_get_within, Some, Step, at-place}
use Rattle.lb_world.proofs.Tables.{world-refused, entered-in, entered-past, entry-of, group-there, own-registry, ready-next, ready-none}
use Rattle.lb_world.proofs.world.Tables.ready.Goals as goal

pub returns-in_default : goal.returns-in_default
returns-in_default g c = rw c.in_default.is (λ h s. world-refused s {st = Step.ready c.args.reader None} refl)

pub returns-then-reader-len : goal.returns-then-reader-len
returns-then-reader-len g c =
    rw c.in-Some.is
    (λ h s. ready-none s c.args.reader c.in-Some.backend (inl (entered-past s c.args.reader (omega arith))))

pub returns-in_default-index : goal.returns-in_default-index
returns-in_default-index g c =
    let at = at-place c.args.self.now.readers.items c.args.reader _ (omega arith) c.index.ensures in
    rw c.in-Some.is
    (λ h s. ready-none s c.args.reader c.in-Some.backend (inr (entered-in s c.args.reader None (at ∙ ap Some c.in_default-index.is))))

pub index-entry-requires : goal.index-entry-requires
index-entry-requires g c =
    let reader = at-place c.args.self.now.readers.items c.args.reader _ (omega arith) c.index.ensures ∙ ap Some c.in-Some-index.is in
    let there_ = group-there c.requires.founded.stands c.args.reader _ reader in
    omega (arith, c.group.ensures, there_)

pub index-registry-requires : goal.index-registry-requires
index-registry-requires g c =
    let reader = at-place c.args.self.now.readers.items c.args.reader _ (omega arith) c.index.ensures ∙ ap Some c.in-Some-index.is in
    let in_ = entry-of c.requires.founded.stands c.args.reader _ reader c.group.ensures c.index-entry.ensures in
    omega (
      arith,
      c.registry.ensures,
      slice_get_within c.args.self.now.registries.items _ _ (c.requires.founded.stands.on_site _ _ in_).registry,
    )

pub ready-requires : goal.ready-requires
ready-requires g c =
    let reader = at-place c.args.self.now.readers.items c.args.reader _ (omega arith) c.index.ensures ∙ ap Some c.in-Some-index.is in
    let in_ = entry-of c.requires.founded.stands c.args.reader _ reader c.group.ensures c.index-entry.ensures in
    let on = c.requires.founded.stands.on_site _ _ in_ in
    let low = slice_get_within c.args.self.now.registries.items _ _ on.registry in
    let at_registry =
    rw c.registry.ensures
    at (at-place c.args.self.now.registries.items c.registry.result _ (omega (arith, c.registry.ensures, low)) c.index-registry.ensures) in
    record {
      own = rw c.reader.ensures (c.requires.founded.stands.own c.args.reader _ reader _ in_);
      registry = own-registry c.requires.founded.stands _ _ _ in_ at_registry;
    }

pub returns : goal.returns
returns g c =
    let reader = at-place c.args.self.now.readers.items c.args.reader _ (omega arith) c.index.ensures ∙ ap Some c.in-Some-index.is in
    let in_ = entry-of c.requires.founded.stands c.args.reader _ reader c.group.ensures c.index-entry.ensures in
    let on = c.requires.founded.stands.on_site _ _ in_ in
    let low = slice_get_within c.args.self.now.registries.items _ _ on.registry in
    let at_registry =
    rw c.registry.ensures
    at (at-place c.args.self.now.registries.items c.registry.result _ (omega (arith, c.registry.ensures, low)) c.index-registry.ensures) in
    rw c.in-Some.is
    (λ h s. ready-next s c.args.reader c.in-Some.backend c.ready.result _ _ _ reader in_ at_registry
    (rw c.reader.ensures at c.ready.ensures))
