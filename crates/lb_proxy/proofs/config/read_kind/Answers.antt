use Rattle.std.proofs.Common.{rules, ◌≡◌, Some, Ok, Err, true, codes, inl, inr}
use Rattle.lb_proxy.specs.Config.{part_of, text_of, IsTextOr, begins_with_slash}
use Rattle.lb_proxy.proofs.config.read_kind.Goals as goal

pub returns-in_err-host-in-Some-http-clause-fault : goal.returns-in_err-host-in-Some-http-clause-fault
returns-in_err-host-in-Some-http-clause-fault c =
    let is : c.from_residual-in_err-host-in-Some-http.result ≡ Err c.in_err-host-in-Some-http.field-0.0 = search rules in
    let kind : text_of (part_of c.args.section.now) (codes "kind") ≡ Ok (Some (codes "http")) = search rules in
    let host : IsTextOr (part_of c.args.section.now) (codes "host") (codes "localhost") c.unwrap_or-host.result.now = search rules in
    let path : IsTextOr (part_of c.args.section.now) (codes "path") (codes "/") c.unwrap_or-path.result.now = search rules in
    let slash : begins_with_slash c.unwrap_or-path.result.now ≡ true = search rules in
    rw is (inr (inr (
      kind,
      inr (inr (
        c.unwrap_or-host.result.now,
        c.unwrap_or-path.result.now,
        host,
        path,
        slash,
        inl c.in_err-host-in-Some-http.ensures.memory,
      )),
    )))
