use Rattle.std.proofs.Common.{length, sym, arith, rules}
use Rattle.std.proofs.lemmas.List.Sums.{prefix_len_is}
use Rattle.lb_health_http.specs.ChunkLines.{class_has}
use Rattle.lb_health_http.proofs.chunk_line.count_of.Goals as goal

pub returns-then-not-has-clause-reached : goal.returns-then-not-has-clause-reached
returns-then-not-has-clause-reached c =
    sym (prefix_len_is (class_has c.args.class) c.args.text.now c.loop-index.index 0 (omega arith) c.loop-index.invariant
    (λ below. search rules))

pub returns-clause-reached : goal.returns-clause-reached
returns-clause-reached c =
    sym (prefix_len_is (class_has c.args.class) c.args.text.now (length c.args.text.now) 0 (omega arith)
    (λ k below. c.loop-index.invariant k (omega arith)) (λ past. absurd (omega arith)))
