use Rattle.std.proofs.Common.{◌≡◌, ◌<◌, ◌≤◌, ◌==◌, ℕ, false, arith, get_or, take, length, length-take, refl}
use Rattle.std.proofs.lemmas.Grind.{common_steps}
use Rattle.lb_script.proofs.SelectionLemmas.{cut_at_space, plain_front, dropped_all}
use Rattle.lb_script.proofs.selection.word_before_space.Goals.{then-loop-count-test+else-bytes-count-ne32, else-loop-count-test}
use Rattle.lb_script.proofs.selection.word_before_space.Goals as goal

pub returns-then-count-bytes : goal.returns-then-count-bytes
returns-then-count-bytes c =
    let bytes = c.args.bytes.now in
    let count = c.loop-count.count in
    let space : get_or bytes count 0 ≡ 32 =
    elim c.loop-count-test.branch [
      | then-loop-count-test+else-bytes-count-ne32 w ↦ w.if-bytes-count-ne32.false
      | else-loop-count-test w ↦ absurd (omega arith)
    ] in
    rw (dropped_all bytes count)
    (record {
      word = take count bytes;
      is = cut_at_space bytes count c.if-count-bytes.true space;
      holds = (plain_front bytes count c.if-count-gt0.true c.if-count-bytes.true c.loop-count.invariant.plain, refl);
    })
