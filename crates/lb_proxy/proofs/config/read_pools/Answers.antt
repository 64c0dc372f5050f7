use Rattle.std.specs.Prelude.{codes}
use Rattle.lb_proxy.specs.Config.{IsPool, EntryIs, part_of, required_of}
use Rattle.lb_proxy.specs.declared.config_fault.Place.TheVariants.{Pool}
use Rattle.toml.specs.View.{view}
use Rattle.lb_proxy.proofs.ConfigLemmas.{zip_more, entry_is, fresh_name, own_names_more}
use Rattle.std.proofs.Common.{rules, ◌≡◌, Err, IsOk, inr, string_bytes}
use Rattle.lb_proxy.specs.Config.{said}
use Rattle.lb_proxy.proofs.FaultLemmas.{pool_no_table, wrong_pool, same_pool, named_there}
use Rattle.lb_proxy.proofs.config.read_pools.Goals as goal

pub loop-number-preserved : goal.loop-number-preserved
loop-number-preserved c =
    let is = entry_is IsPool (part_of c.args.top.now) (codes "pool") (Pool c.loop-number.number)
    (view c.index-tables-number.result) c.in_ok-section.section c.in_ok-pool.pool
    c.in_ok-section.ensures c.in_ok-pool.ensures.spelled in
    let fresh = fresh_name c.pool_number.result c.is_some.result c.loop-number.pools.items c.as_slice.result.now c.as_str.result.now _
    c.is_some.ensures c.if-is_some.false c.as_slice.ensures.value c.as_str.ensures.value c.pool_number.ensures.none in
    rw c.in-Ok.ensures.items (
      zip_more view (EntryIs IsPool) c.in_ok-tables.tables.now c.loop-number.pools.items c.loop-number.number
          c.index-tables-number.result c.in_ok-pool.pool c.index-tables-number.is c.loop-number-test.true c.loop-number.invariant.0 is,
      own_names_more c.loop-number.pools.items c.in_ok-pool.pool c.loop-number.invariant.1 fresh,
    )

pub returns-in_err-section-clause-fault : goal.returns-in_err-section-clause-fault
returns-in_err-section-clause-fault c =
    let is : c.from_residual-in_err-section.result ≡ Err c.in_err-section.field-0.0 = search rules in
    rw is (pool_no_table (part_of c.args.top.now) c.in_ok-tables.tables.now c.loop-number.number c.index-tables-number.result
    (said c.in_err-section.field-0.0) c.loop-number.pools.items c.in_ok-tables.ensures c.index-tables-number.is c.loop-number-test.true
    c.loop-number.invariant c.in_err-section.ensures)

pub returns-in_err-pool-clause-fault : goal.returns-in_err-pool-clause-fault
returns-in_err-pool-clause-fault c =
    let is : c.from_residual-in_err-pool.result ≡ Err c.in_err-pool.field-0.0 = search rules in
    rw is (wrong_pool (part_of c.args.top.now) (part_of c.in_ok-section.section) c.in_ok-tables.tables.now c.loop-number.number
    c.index-tables-number.result (said c.in_err-pool.field-0.0) c.loop-number.pools.items c.in_ok-tables.ensures
    c.index-tables-number.is c.loop-number-test.true c.loop-number.invariant c.in_ok-section.ensures c.in_err-pool.ensures.fault)

pub returns-then-is_some-clause-fault : goal.returns-then-is_some-clause-fault
returns-then-is_some-clause-fault c =
    let name = string_bytes c.in_ok-pool.pool.name in
    let named = named_there c.pool_number.result c.is_some.result c.loop-number.pools.items c.as_slice.result.now c.as_str.result.now name
    c.is_some.ensures c.if-is_some.true c.as_slice.ensures.value c.as_str.ensures.value c.pool_number.ensures.some in
    same_pool (part_of c.args.top.now) (part_of c.in_ok-section.section) c.in_ok-tables.tables.now c.loop-number.number
    c.index-tables-number.result (said c.fault.result) c.loop-number.pools.items c.in_ok-pool.pool named.0 c.in_ok-tables.ensures
    c.index-tables-number.is c.loop-number-test.true c.loop-number.invariant c.in_ok-section.ensures c.in_ok-pool.ensures.spelled
    named.1 c.fault.ensures

pub returns-in-Err-clause-fault : goal.returns-in-Err-clause-fault
returns-in-Err-clause-fault c =
    let named : IsOk (required_of (part_of c.in_ok-section.section) (codes "name")) = rw c.in_ok-pool.ensures.spelled.name search rules in
    wrong_pool (part_of c.args.top.now) (part_of c.in_ok-section.section) c.in_ok-tables.tables.now c.loop-number.number
    c.index-tables-number.result (said c.fault-in-Err.result) c.loop-number.pools.items c.in_ok-tables.ensures
    c.index-tables-number.is c.loop-number-test.true c.loop-number.invariant c.in_ok-section.ensures
    (inr (inr (inr (inr (c.in_ok-pool.ensures.spelled.known, named, c.fault-in-Err.ensures)))))
