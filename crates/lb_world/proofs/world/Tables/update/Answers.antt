-- An address that was refused comes before all else.
use Rattle.lb_world.proofs.Words.{◌∙◌, ap, has_refused, inl, refl, sym}
use Rattle.lb_world.proofs.Tables.{world-refused}
use Rattle.lb_world.proofs.world.Tables.update.Goals as goal

pub returns-then-has_refused : goal.returns-then-has_refused
returns-then-has_refused g c =
    λ h s.
    world-refused s (inl (rw (ap has_refused (sym c.deref.ensures.value) ∙ sym c.if-has_refused.ensures) refl))

pub at_group-requires-clause-whole : goal.at_group-requires-clause-whole
at_group-requires-clause-whole g c = ap has_refused (sym c.deref.ensures.value) ∙ sym c.if-has_refused.ensures
