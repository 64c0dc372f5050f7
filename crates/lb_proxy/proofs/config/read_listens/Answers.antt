use Rattle.std.specs.Prelude.{codes}
use Rattle.lb_proxy.specs.Config.{IsListen, EntryIs, part_of}
use Rattle.lb_proxy.specs.declared.config_fault.Place.TheVariants.{Listen}
use Rattle.toml.specs.View.{view}
use Rattle.lb_proxy.proofs.ConfigLemmas.{zip_more, entry_is}
use Rattle.std.proofs.Common.{rules, ◌≡◌, Err, inr}
use Rattle.lb_proxy.specs.Config.{said}
use Rattle.lb_proxy.proofs.FaultLemmas.{listen_no_table, wrong_listen}
use Rattle.lb_proxy.proofs.config.read_listens.Goals as goal

pub loop-number-preserved : goal.loop-number-preserved
loop-number-preserved c =
    let is = entry_is (IsListen c.args.pools.now) (part_of c.args.top.now) (codes "listen") (Listen c.loop-number.number)
    (view c.index-tables-number.result) c.in_ok-section.section c.in_ok-listen.listen
    c.in_ok-section.ensures c.in_ok-listen.ensures.spelled in
    rw c.in-Ok.ensures.items (zip_more view (EntryIs (IsListen c.args.pools.now)) c.in_ok-tables.tables.now c.loop-number.listens.items
    c.loop-number.number
    c.index-tables-number.result c.in_ok-listen.listen c.index-tables-number.is c.loop-number-test.true c.loop-number.invariant is)

pub returns-in_err-section-clause-fault : goal.returns-in_err-section-clause-fault
returns-in_err-section-clause-fault c =
    let is : c.from_residual-in_err-section.result ≡ Err c.in_err-section.field-0.0 = search rules in
    rw is (listen_no_table c.args.pools.now (part_of c.args.top.now) c.in_ok-tables.tables.now c.loop-number.number
    c.index-tables-number.result (said c.in_err-section.field-0.0) c.loop-number.listens.items c.in_ok-tables.ensures
    c.index-tables-number.is c.loop-number-test.true c.loop-number.invariant c.in_err-section.ensures)

pub returns-in_err-listen-clause-fault : goal.returns-in_err-listen-clause-fault
returns-in_err-listen-clause-fault c =
    let is : c.from_residual-in_err-listen.result ≡ Err c.in_err-listen.field-0.0 = search rules in
    rw is (wrong_listen c.args.pools.now (part_of c.args.top.now) (part_of c.in_ok-section.section) c.in_ok-tables.tables.now
    c.loop-number.number c.index-tables-number.result (said c.in_err-listen.field-0.0) c.loop-number.listens.items
    c.in_ok-tables.ensures c.index-tables-number.is c.loop-number-test.true c.loop-number.invariant c.in_ok-section.ensures
    c.in_err-listen.ensures.fault)

pub returns-in-Err-clause-fault : goal.returns-in-Err-clause-fault
returns-in-Err-clause-fault c =
    wrong_listen c.args.pools.now (part_of c.args.top.now) (part_of c.in_ok-section.section) c.in_ok-tables.tables.now
    c.loop-number.number c.index-tables-number.result (said c.fault.result) c.loop-number.listens.items c.in_ok-tables.ensures
    c.index-tables-number.is c.loop-number-test.true c.loop-number.invariant c.in_ok-section.ensures
    (inr (inr (inr (c.in_ok-listen.listen, c.in_ok-listen.ensures.spelled, c.fault.ensures))))
