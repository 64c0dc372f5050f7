-- The core's flag.
use Rattle.lb_rebuild_core.specs.GroupHistory as group
use Rattle.lb_world.proofs.Words.{◌∷◌, Answer, Before, Bool, cond, EntryNext, EntryValue, false, GateValue, History, inl, group_events}
use Rattle.lb_world.proofs.Words.{GroupValue, Meaning, Member, refl, RegistryValue, Some, Step, sym, true, with_core, WorldRule, ℕ}
use Rattle.lb_world.proofs.Entries.{group-told, Moves, next-core, unshared}
use Rattle.lb_world.proofs.entry.Entry.set_enable.Goals as goal

does-set : {C : Type 0} {M : Meaning C} {h : History C} {g : ℕ} {e : EntryValue C} {z : GateValue} {v : RegistryValue WorldRule}
    (b : Before M h g e z v) {core : GroupValue C} (m : Member) (on : Bool) → Moves e (group.Set m on ∷ group_events g h) core
    → EntryNext M h g (cond on (Step.enable g (Some m)) (Step.disable g (Some m))) Answer.Done e z (with_core core e) z v
does-set b m true moves =
    next-core b refl (inl (sym (group-told b.is Answer.Done))) moves refl (λ s. refl) (λ m. refl) refl
    (unshared b (Step.enable _ (Some m)) Answer.Done refl refl)
does-set b m false moves =
    next-core b refl (inl (sym (group-told b.is Answer.Done))) moves refl (λ s. refl) (λ m. refl) refl
    (unshared b (Step.disable _ (Some m)) Answer.Done refl refl)

pub returns : goal.returns
returns g c =
    rw (← c.self.view_is)
    (λ z v h n b. does-set b _ c.args.enabled (c.set_enable.ensures.site, c.set_enable.ensures.stands _ _ b.is.core_is))
