use Rattle.std.proofs.Common.{ℕ, List, drop, subst, arith, length-drop}
use Rattle.lb_proxy.specs.Http.Body.{Passes, BlocksAll}
use Rattle.lb_proxy.proofs.HttpStepLemmas.{rest_is, passes_on, blocks_on}
use Rattle.lb_proxy.proofs.http.body.Body.pass.Goals as goal

pub loop-passed-preserved : goal.loop-passed-preserved
loop-passed-preserved c =
    let bytes = c.args.bytes.now in
    let passed = c.loop-passed.passed in
    let place = c.loop-passed.self.place in
    let one : Passes place (drop passed bytes) c.in-Some.count c.in-Some.next =
    subst (λ (rest : List ℕ). Passes place rest c.in-Some.count c.in-Some.next) (rest_is bytes passed) c.in-Some.ensures in
    let here = one.within in
    let before = c.loop-passed.invariant.within in
    record {
      within = omega (arith, length-drop passed bytes);
      follows = passes_on c.args.self.now.place place c.in-Some.next bytes passed c.in-Some.count c.loop-passed.invariant.follows one;
    }

pub returns-in-None-clause-refused : goal.returns-in-None-clause-refused
returns-in-None-clause-refused c =
    let bytes = c.args.bytes.now in
    let passed = c.loop-passed.passed in
    let place = c.loop-passed.self.place in
    blocks_on c.args.self.now.place place bytes passed c.loop-passed.invariant.follows
    (subst (λ (rest : List ℕ). BlocksAll place rest) (rest_is bytes passed) c.in-None.ensures)
