-- The core takes the selector out, and its report is owed then.
use Rattle.lb_rebuild_core.specs.GroupStates.{SameSite}
use Rattle.lb_world.proofs.Words.{◌∙◌, false≢true, GroupValue, refl, site, sym}
use Rattle.lb_world.proofs.Entries.{does-destroy, does-refuse-destruction, owed-now}
use Rattle.lb_world.proofs.entry.Entry.destroy.Goals as goal

-- a site that two calls left
site-then : {C : Type 0} {u v w : GroupValue C} → SameSite u v → SameSite v w → SameSite u w
site-then a b =
    record {
      group =
          record { id = b.group.id ∙ a.group.id; gate = b.group.gate ∙ a.group.gate; configs = b.group.configs ∙ a.group.configs };
      id = b.id ∙ a.id;
      registry = b.registry ∙ a.registry;
    }

pub unreachable-requires : goal.unreachable-requires
unreachable-requires g c =
    let own = rw (← c.self.view_is) at c.requires.stands.is in
    false≢true
    (sym (c.in-Err-destroyed.ensures.answers _ _ (c.in-Ok.ensures.stands _ _ own.core_is)).0
    ∙ owed-now (site c.self.inside.core) c.args.slot _ (c.in-Ok.ensures.answers _ _ own.core_is).0)

pub returns-in-Err : goal.returns-in-Err
returns-in-Err g c =
    rw (← c.self.view_is)
    (λ h n b.
    does-refuse-destruction b (c.take_retired.ensures.site, c.in-Err.ensures.stands _ _ b.is.core_is)
    (c.in-Err.ensures.answers _ _ b.is.core_is))

pub returns-in-Ok-destroyed : goal.returns-in-Ok-destroyed
returns-in-Ok-destroyed g c =
    rw (← c.self.view_is)
    (λ h n b.
    let after = c.in-Ok.ensures.stands _ _ b.is.core_is in
    let first = c.take_retired.ensures.site in
    does-destroy b c.args.slot _ (site-then first c.destroyed.ensures.site, c.in-Ok-destroyed.ensures.stands _ _ after)
    (c.in-Ok.ensures.answers _ _ b.is.core_is).0 refl c.in-Ok-destroyed.ensures.gate
    (rw first.id at (c.in-Ok-destroyed.ensures.registry _ _ b.kept _ _ after), c.destroyed.ensures.one_registry))
