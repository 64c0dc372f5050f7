use Rattle.std.proofs.Common.{arith, ◌∙◌, ap, nat_cmp}
use Rattle.lb_select_base.proofs.Octets.{sixteen_octets}
use Rattle.lb_select_base.proofs.backend.compared_sixteen.Goals as goal

pub returns : goal.returns
returns c =
    c.cmp.ensures ∙ ap (λ x. nat_cmp x c.from_be_bytes-2.result) c.from_be_bytes.ensures
    ∙ ap (nat_cmp _) c.from_be_bytes-2.ensures
    ∙ sixteen_octets c.args.octets.now c.args.others.now (omega arith) (omega arith) c.fits-octets c.fits-others
