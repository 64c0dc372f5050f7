use Rattle.std.proofs.Common.{rules, ◌≡◌, Err, inl, inr, sym}
use Rattle.lb_proxy.specs.Config.{part_of}
use Rattle.lb_proxy.specs.Key.{owned_seen}
use Rattle.lb_proxy.specs.Faults.{HasKey}
use Rattle.lb_proxy.proofs.config.read_listen.Goals as goal

pub returns-in_err-name-clause-fault : goal.returns-in_err-name-clause-fault
returns-in_err-name-clause-fault c =
    let is : c.from_residual-in_err-name.result ≡ Err c.in_err-name.field-0.0 = search rules in
    let key : HasKey (part_of c.args.section.now) =
    (c.in_ok-mode.mode, owned_seen c.in_ok-key.key, sym c.in_ok-mode.ensures, c.in_ok-key.ensures.spelled) in
    rw is (inr (inr (inl (
      c.in_ok-address.address,
      c.in_ok-only.ensures.known,
      c.in_ok-address.ensures.spelled,
      inr (inr (key, inl (sym c.in_err-name.ensures))),
    ))))

pub returns-in_default-clause-fault : goal.returns-in_default-clause-fault
returns-in_default-clause-fault c =
    let key : HasKey (part_of c.args.section.now) =
    (c.in_ok-mode.mode, owned_seen c.in_ok-key.key, sym c.in_ok-mode.ensures, c.in_ok-key.ensures.spelled) in
    inr (inr (inl (
      c.in_ok-address.address,
      c.in_ok-only.ensures.known,
      c.in_ok-address.ensures.spelled,
      inr (inr (key, inr (inl (c.in_ok-name.name.now, sym c.in_ok-name.ensures, c.in_default.ensures.none, c.fault.ensures)))),
    )))

pub returns-in_err-selection-clause-fault : goal.returns-in_err-selection-clause-fault
returns-in_err-selection-clause-fault c =
    let is : c.from_residual-in_err-selection.result ≡ Err c.in_err-selection.field-0.0 = search rules in
    let key : HasKey (part_of c.args.section.now) =
    (c.in_ok-mode.mode, owned_seen c.in_ok-key.key, sym c.in_ok-mode.ensures, c.in_ok-key.ensures.spelled) in
    rw is (inr (inr (inl (
      c.in_ok-address.address,
      c.in_ok-only.ensures.known,
      c.in_ok-address.ensures.spelled,
      inr (inr (
        key,
        inr (inr (
          c.in_ok-name.name.now,
          c.in-Some.pool,
          sym c.in_ok-name.ensures,
          c.in-Some.ensures.some,
          sym c.in_err-selection.ensures,
        )),
      )),
    ))))
