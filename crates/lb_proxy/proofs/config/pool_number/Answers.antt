use Rattle.std.proofs.Common.{◌≢◌, Some, string_bytes, ap, sym, refl, ◌∙◌, option_map}
use Rattle.std.proofs.lemmas.Option.{slice_get_read}
use Rattle.lb_proxy.proofs.ConfigLemmas.{all_more, same_name, other_name}
use Rattle.lb_proxy.proofs.config.pool_number.Goals as goal

pub returns-then-eq-clause-some : goal.returns-then-eq-clause-some
returns-then-eq-clause-some c =
    let found = slice_get_read c.args.pools.now _ c.loop-number.number c.index-pools-number.result refl c.loop-number-test.true
    c.index-pools-number.is in
    let read = c.as_str.ensures.value ∙ ap (λ pool. string_bytes pool.name) (sym c.index-pools-number.is) in
    let same = same_name c.as_str.result.now c.args.name.now (string_bytes c.index-pools-number.result.name) c.eq.result read c.eq.ensures
    c.if-eq.true in
    record { is_there = c.loop-number-test.true; named = ap (option_map (λ pool. string_bytes pool.name)) found ∙ ap Some same }

pub loop-number-preserved : goal.loop-number-preserved
loop-number-preserved c =
    let read = c.as_str.ensures.value ∙ ap (λ pool. string_bytes pool.name) (sym c.index-pools-number.is) in
    all_more (λ pool. string_bytes pool.name ≢ c.args.name.now) c.args.pools.now c.loop-number.number c.index-pools-number.result
    c.index-pools-number.is c.loop-number-test.true c.loop-number.invariant
    (other_name c.as_str.result.now c.args.name.now (string_bytes c.index-pools-number.result.name) c.eq.result read c.eq.ensures
    c.if-eq.false)
