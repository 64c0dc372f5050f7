-- The core's cancellation, and the mark of its view.
use Rattle.lb_health_core.specs.RegistryEvents as registry
use Rattle.lb_world.proofs.Words.{◌∷◌, Answer, ap, inl, refl, registry_events, Step, sym, view_in}
use Rattle.lb_world.proofs.Entries.{group-told, next-core, shared}
use Rattle.lb_world.proofs.entry.Entry.cancel.Goals as goal

pub returns : goal.returns
returns g c =
    rw (← c.self.view_is)
    (λ z h n b.
    next-core b refl (inl (sym (group-told b.is Answer.Cancelled))) (c.cancel.ensures.site, c.cancel.ensures.stands _ _ b.is.core_is) refl
    (λ x. refl) (λ m. refl) refl
    (shared b (Step.cancel n) Answer.Cancelled refl
    (ap (λ o. registry.Marked (view_in o) ∷ registry_events c.self.inside.registry h) b.is.made_is) (c.cancel.ensures.registry _ _ b.kept)
    c.cancel.ensures.one_registry))
