-- The lanes' key is the group.
use Rattle.std.proofs.Common.{◌∙◌, sym, subst, inl, inr}
use Rattle.lb_threads_group.specs.Kept.{IsEntry}
use Rattle.lb_threads_group.proofs.group.SharedGroup.keep.Goals as goal

pub renew-requires-clause-fits : goal.renew-requires-clause-fits
renew-requires-clause-fits g c =
    subst (λ v. IsEntry v c.args.entry.slot c.args.entry.reader c.args.entry.found)
    (sym (c.self.invariant.4 ∙ c.self.view_is)) c.requires

pub returns : goal.returns
returns g c = inr c.requires.0
